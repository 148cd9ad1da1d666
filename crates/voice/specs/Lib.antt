pub mod Voice
pub mod Range
