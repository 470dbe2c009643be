pub mod Arrows
pub mod Bars
pub mod Escapes
pub mod Places
pub mod Pictures
pub mod Steps
pub mod Ticks
