pub mod Chains
pub mod Escaping
