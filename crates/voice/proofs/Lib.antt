pub mod Keys
pub mod Range
pub mod Ticks
pub mod Safe
