pub mod Operations
pub mod Output
pub mod Replies
