pub mod Scans
pub mod Small
