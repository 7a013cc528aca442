pub mod LineByLine
pub mod Pieces
pub mod Unique
pub mod Ways
pub mod KnownKinds
