pub mod Counts
pub mod Limits
pub mod Passes
pub mod Rule
pub mod Steps
pub mod Views
pub mod Words
