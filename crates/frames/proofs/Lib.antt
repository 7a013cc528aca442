pub mod Meeting
pub mod Storing
pub mod Walking
pub mod Laying
pub mod FairRuns
pub mod Modeless
pub mod Unique
pub mod Reading
