pub mod Ticking
pub mod Seen
pub mod Asked
