pub mod Alone
pub mod Counted
pub mod Memory
pub mod Objects
pub mod Starts
