pub mod Tests
pub mod Reading
