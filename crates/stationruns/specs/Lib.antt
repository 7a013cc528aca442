pub mod Runs
pub mod Inputs
