pub mod Tables
pub mod Senders
pub mod Runs
pub mod Period
pub mod Marks
pub mod Edition
pub mod Readers
