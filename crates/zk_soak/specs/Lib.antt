pub mod Drawn
pub mod Objects
pub mod Soak
