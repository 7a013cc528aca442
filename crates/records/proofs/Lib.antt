pub mod Bodies
pub mod LengthTable
pub mod Steps
