pub mod Map
pub mod Offsets
