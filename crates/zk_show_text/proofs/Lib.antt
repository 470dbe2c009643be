pub mod Lines
pub mod Longest
pub mod MarkSets
pub mod NameLines
pub mod OpenBars
pub mod RowLines
