pub mod Seated
pub mod Crossing
pub mod Finishing
