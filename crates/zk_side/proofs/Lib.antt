pub mod Counted
pub mod FirstWord
