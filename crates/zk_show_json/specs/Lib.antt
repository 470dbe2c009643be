pub mod Arrays
pub mod Escapes
pub mod Values
