pub mod Pool
pub mod Keys
pub mod Run
