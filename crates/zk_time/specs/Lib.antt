pub mod Alarms
pub mod ClockSeen
pub mod Deltas
pub mod Timeouts
