pub mod Times
pub mod Limits
pub mod Openings
pub mod Holding
pub mod Standing
pub mod Keeping
pub mod Opens
pub mod Laws
