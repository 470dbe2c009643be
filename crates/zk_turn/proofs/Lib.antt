pub mod Calls
mod Counting
pub mod Crossing
pub mod Dealing
mod Ending
mod Glances
mod Joining
mod Keeping
mod Looking
mod Moving
mod Passes
mod Players
mod Seats
mod Words
