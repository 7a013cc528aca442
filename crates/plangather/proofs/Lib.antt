pub mod Gathering
pub mod SoFar
pub mod Stored
