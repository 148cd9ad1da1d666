pub mod Adsr
pub mod Range
