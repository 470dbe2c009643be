pub mod Escaping
pub mod Arrays
pub mod Logs
