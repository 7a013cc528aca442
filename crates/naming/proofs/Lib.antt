pub mod Names
pub mod Places
