pub mod Outcome
pub mod Written
pub mod Ran
pub mod Promise
