pub mod Among
pub mod Firsts
pub mod LookedAt
pub mod Starts
