pub mod Answering
pub mod Calls
pub mod Coming
pub mod Ticking
