pub mod Filled
pub mod Scanned
pub mod Laid
