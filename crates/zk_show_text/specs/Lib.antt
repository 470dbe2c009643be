pub mod Chart
pub mod Header
pub mod Layout
pub mod Line
pub mod Marks
pub mod Opened
pub mod Rows
pub mod Words
