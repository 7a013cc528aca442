pub mod Line
pub mod Laying
