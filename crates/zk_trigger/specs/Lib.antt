pub mod Live
pub mod Pumping
pub mod Pumps
pub mod Seen
pub mod Stands
pub mod Steps
