pub mod Searched
pub mod Listed
pub mod Steps
