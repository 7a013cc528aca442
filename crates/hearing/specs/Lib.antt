pub mod Heard
pub mod Pieces
