pub mod Gathered
pub mod Looks
