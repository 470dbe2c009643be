pub mod Figures
pub mod Ends
pub mod Sheets
