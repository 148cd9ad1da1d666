pub mod Address
pub mod Memory
pub mod Program
pub mod TwoRuns
pub mod Calls
