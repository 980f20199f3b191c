pub mod Places
pub mod Loads
pub mod Queries
pub mod Seconds
pub mod Laws
