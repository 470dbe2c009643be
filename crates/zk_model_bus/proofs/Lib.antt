pub mod ChannelHolds
pub mod ChannelKept
pub mod ChannelObservers
mod ChannelOwed
pub mod ChannelTells
pub mod ChannelWaits
pub mod ObserverOrder
mod ObserverOwed
pub mod ObserverTells
pub mod ObserverWaits
pub mod TableTells
