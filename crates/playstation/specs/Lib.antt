pub mod Closing
pub mod Played
