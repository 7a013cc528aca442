pub mod Numbers
pub mod Holding
pub mod Sayings
pub mod Stored
pub mod Gathering
pub mod Answers
pub mod Unique
