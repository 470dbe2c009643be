pub mod Places
pub mod Line
pub mod Open
pub mod Ring
pub mod Words
