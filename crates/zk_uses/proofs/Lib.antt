pub mod Called
pub mod Crossing
pub mod Looks
