pub mod Safe
pub mod Turns
