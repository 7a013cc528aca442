pub mod Unscanned
pub mod Passing
