pub mod Seen
pub mod Sizes
