pub mod OverLine
pub mod Scattered
pub mod Tabled
pub mod Ways
pub mod Unique
