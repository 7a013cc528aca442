pub mod Sheet
pub mod Back
