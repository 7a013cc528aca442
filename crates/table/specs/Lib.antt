pub mod Memory
pub mod Rows
