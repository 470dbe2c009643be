pub mod Callers
pub mod Juggling
pub mod Looks
pub mod Raising
pub mod Tally
