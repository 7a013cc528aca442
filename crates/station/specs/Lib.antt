pub mod Memory
pub mod Answers
pub mod Parts
