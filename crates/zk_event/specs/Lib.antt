pub mod Event
pub mod EventLaws
pub mod EventWaits
pub mod Seen
pub mod Waiting
