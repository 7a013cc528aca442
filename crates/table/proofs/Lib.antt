pub mod Gathering
pub mod Glued
