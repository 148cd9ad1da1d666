pub mod Kept
pub mod Demand
pub mod Refused
