pub mod Kept
pub mod Lists
pub mod Refusals
