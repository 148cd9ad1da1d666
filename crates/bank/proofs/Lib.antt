pub mod Laws
pub mod Leads
pub mod Finds
pub mod Longer
