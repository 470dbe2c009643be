pub mod Counts
pub mod Hands
pub mod Keepers
pub mod Rule
pub mod Steps
pub mod Views
