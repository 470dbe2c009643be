pub mod Services
pub mod Order
pub mod Lanes
pub mod Drawing
