pub mod First
pub mod Kept
pub mod Players
pub mod Seen
