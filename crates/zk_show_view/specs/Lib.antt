pub mod Views
pub mod Shown
pub mod Verdict
pub mod Answers
