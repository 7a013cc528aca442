pub mod Judging
pub mod RecordRefusal
pub mod RecordScan
pub mod RecordTests
pub mod Unique
