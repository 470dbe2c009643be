mod AlarmCounts
mod Arming
mod Arms
mod ClockOwed
mod Disarming
mod Looks
pub mod Orders
pub mod Room
