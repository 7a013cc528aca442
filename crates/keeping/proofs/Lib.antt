pub mod Filling
pub mod Pairs
pub mod Read
pub mod Words
