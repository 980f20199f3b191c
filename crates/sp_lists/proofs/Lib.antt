pub mod AllGiven
pub mod Crossing
pub mod Told
