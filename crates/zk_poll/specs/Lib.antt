pub mod Notes
pub mod Seen
pub mod Words
