pub mod Numbers
pub mod Answers
pub mod Seen
