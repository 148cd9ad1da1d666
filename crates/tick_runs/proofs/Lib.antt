pub mod Voices
pub mod Ticks
