pub mod Bits
pub mod Flagged
pub mod Keeping
pub mod Lines
pub mod Lives
pub mod Numbers
pub mod Positions
pub mod Tables
