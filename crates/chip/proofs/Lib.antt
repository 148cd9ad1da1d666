pub mod Tests
pub mod Ranges
pub mod Registers
pub mod Writes
pub mod WriteRanges
