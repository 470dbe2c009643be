pub mod BitWords
