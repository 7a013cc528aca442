pub mod Rules
pub mod Exact
pub mod Unique
