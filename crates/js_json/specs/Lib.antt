pub mod Counts
pub mod Json
pub mod Members
pub mod Names
pub mod Laws
