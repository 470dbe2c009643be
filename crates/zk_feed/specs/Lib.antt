pub mod Feeding
pub mod Lasts
pub mod Output
