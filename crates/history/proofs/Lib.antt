pub mod LinesByLetters
pub mod Wording
