pub mod Keeping
pub mod Passing
pub mod Unique
pub mod Shown
pub mod Zero
