pub mod Arms
pub mod Histories
pub mod Laws
pub mod Machine
pub mod Putting
pub mod Steady
