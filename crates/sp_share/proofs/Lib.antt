pub mod Crossing
pub mod Lending
