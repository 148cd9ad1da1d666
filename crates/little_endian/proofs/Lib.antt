pub mod Puts
pub mod Stands
