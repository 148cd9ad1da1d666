pub mod Transfer
pub mod Whole
