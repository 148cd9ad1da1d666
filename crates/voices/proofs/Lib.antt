pub mod Settings
pub mod Turns
