pub mod Seats
pub mod Finished
