pub mod Causes
pub mod Changing
pub mod Ends
pub mod Follow
pub mod InRange
pub mod Lists
pub mod Once
pub mod Putting
pub mod Stands
pub mod Steps
pub mod Told
pub mod Waiting
mod WrongTriggers
