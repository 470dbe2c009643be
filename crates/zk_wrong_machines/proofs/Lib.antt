mod Players
pub mod Semaphores
pub mod MessageQueues
pub mod SignalsAndClock
pub mod Zbus
pub mod WorkQueues
pub mod FlagWords
