pub mod Within
pub mod Room
