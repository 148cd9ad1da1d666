pub mod Calls
pub mod Views
