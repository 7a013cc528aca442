pub mod Laid
pub mod Parts
pub mod Sizes
