pub mod Examples
pub mod Spelled
pub mod LineKinds
pub mod LineBack
pub mod ReadsBack
pub mod Longest
pub mod Shorter
