pub mod RoundRobin
pub mod Turning
pub mod LastTurns
pub mod Sleeping
pub mod Replay
pub mod Laws
