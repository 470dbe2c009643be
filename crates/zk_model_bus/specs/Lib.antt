pub mod Channel
pub mod ChannelLaws
pub mod ChannelWaits
pub mod Observer
pub mod ObserverLaws
pub mod ObserverWaits
pub mod Table
pub mod TableLaws
