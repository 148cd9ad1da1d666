pub mod Laws
pub mod Read
pub mod Put
pub mod Tail
pub mod Encoding
pub mod Ranges
pub mod Made
