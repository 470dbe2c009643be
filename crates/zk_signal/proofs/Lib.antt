pub mod Counts
pub mod Crossing
mod Dealing
mod Ending
mod Joining
mod Keeping
mod Moving
pub mod Ordering
pub mod Passes
mod Seats
mod Starting
mod Wording
