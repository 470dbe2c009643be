pub mod Calls
pub mod Passes
pub mod Players
pub mod Steps
pub mod Turn
pub mod Views
pub mod Words
