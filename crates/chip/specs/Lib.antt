pub mod State
pub mod Range
pub mod Registers
