pub mod Scans
pub mod Fits
