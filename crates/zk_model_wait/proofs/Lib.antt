pub mod Alarms
pub mod MsgqOrder
mod MsgqOwed
pub mod MsgqPolls
pub mod MsgqWaits
pub mod Polls
pub mod SemCounts
mod SemOwed
pub mod SemPolls
pub mod SemWaits
pub mod Stamps
pub mod Ticks
pub mod Writes
