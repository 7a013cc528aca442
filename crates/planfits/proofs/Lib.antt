pub mod Chains
pub mod Places
pub mod Seen
pub mod Rule
