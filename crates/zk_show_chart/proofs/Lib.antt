pub mod RowOrder
pub mod BarSteps
pub mod Cuts
pub mod TextLines
pub mod SaidLines
pub mod RowTicks
