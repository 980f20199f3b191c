pub mod Pairs
pub mod SameForm
