pub mod Walk
pub mod Laid
