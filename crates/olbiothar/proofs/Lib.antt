pub mod Beginning
pub mod Shown
pub mod FewFrames
pub mod MakeRules
pub mod CheckRules
pub mod Unique
pub mod Sheets
pub mod Words
