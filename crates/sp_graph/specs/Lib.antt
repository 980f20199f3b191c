pub mod Derived
pub mod Returns
pub mod Tables
pub mod Answers
pub mod Laws
