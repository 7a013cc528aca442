pub mod Memory
pub mod Writing
