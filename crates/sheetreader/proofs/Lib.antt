pub mod Numbering
pub mod Sayings
pub mod Gathering
pub mod Bytes
