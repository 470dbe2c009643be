pub mod Counts
pub mod Crossing
mod Dealing
mod Filling
mod Gathering
mod Joining
mod Keepers
mod Keeping
mod Learning
mod Moving
mod Sums
