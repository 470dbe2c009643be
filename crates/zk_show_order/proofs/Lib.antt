pub mod Counting
pub mod Containing
pub mod Joining
pub mod Drawn
pub mod Rounds
pub mod Ended
pub mod Sorting
