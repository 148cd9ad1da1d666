pub mod Write
pub mod Handed
