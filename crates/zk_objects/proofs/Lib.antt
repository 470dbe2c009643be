pub mod Firsts
mod Owed
pub mod Standing
