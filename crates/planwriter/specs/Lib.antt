pub mod Pieces
pub mod Printing
