pub mod Pumped
pub mod Tried
