pub mod Tick
pub mod Run
