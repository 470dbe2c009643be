pub mod Answers
pub mod Histories
pub mod Laws
pub mod Lists
pub mod Machine
pub mod Questions
pub mod State
