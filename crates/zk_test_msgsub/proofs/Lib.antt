pub mod Crossing
pub mod Rounds
pub mod Starts
