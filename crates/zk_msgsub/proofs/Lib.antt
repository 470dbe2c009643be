pub mod Callers
mod Closing
mod Counting
pub mod Crossing
mod Dealing
mod FanTells
mod Learning
mod Moving
mod Places
mod Rosters
mod Sending
mod Subscribers
mod WrongFans
