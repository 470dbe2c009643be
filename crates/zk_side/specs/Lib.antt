pub mod Kept
pub mod Output
pub mod Played
pub mod Script
pub mod Slots
