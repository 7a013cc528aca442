pub mod Cells
pub mod Examples
pub mod Longest
pub mod Pinned
pub mod ReadsBack
pub mod RowLines
pub mod Signs
pub mod Ticks
