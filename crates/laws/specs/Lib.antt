pub mod Res
pub mod Lists
pub mod Numbers
pub mod Loops
pub mod Faults
