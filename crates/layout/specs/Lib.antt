pub mod Layout
pub mod Stores
