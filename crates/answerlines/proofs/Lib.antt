pub mod Lines
pub mod AnswersByLetters
pub mod Places
