pub mod Ways
pub mod Handing
pub mod Unique
