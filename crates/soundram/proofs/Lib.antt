pub mod Addresses
pub mod Halfwords
pub mod Programs
pub mod Blocks
pub mod TwoRuns
pub mod Times
pub mod Calls
