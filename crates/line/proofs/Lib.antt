pub mod Built
pub mod Ways
pub mod Framing
pub mod Cycle
pub mod Reading
pub mod Unique
pub mod Drawn
