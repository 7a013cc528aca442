pub mod Flags
pub mod Bits
