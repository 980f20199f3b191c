pub mod Stored
pub mod Faults
pub mod Places
pub mod Lends
