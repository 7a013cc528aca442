pub mod Runs
pub mod Decimals
pub mod Putting
pub mod Reading
pub mod Words
pub mod Fronts
pub mod Padded
