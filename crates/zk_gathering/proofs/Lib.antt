pub mod Admitted
pub mod Gathered
pub mod WaitingItems
