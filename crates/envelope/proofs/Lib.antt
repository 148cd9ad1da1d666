pub mod Rates
pub mod Phases
pub mod Levels
pub mod Times
pub mod Steps
pub mod Ticks
pub mod Range
