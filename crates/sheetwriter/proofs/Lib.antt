pub mod Cells
pub mod Laid
pub mod Unique
pub mod Ways
