pub mod Ways
pub mod Lent
pub mod Unique
