pub mod Kinds
pub mod Reader
