pub mod Demand
pub mod Range
pub mod Numbers
pub mod Undocumented
pub mod Lent
pub mod Runs
pub mod Log
