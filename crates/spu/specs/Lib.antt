pub mod Step
pub mod Log
