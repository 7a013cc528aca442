pub mod Ways
pub mod Pairs
pub mod Taken
pub mod Chains
