pub mod Held
pub mod Layouts
pub mod Verdicts
pub mod NamedFrames
