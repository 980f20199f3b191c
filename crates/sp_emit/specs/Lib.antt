pub mod Matches
pub mod Reading
pub mod StateLines
pub mod Summary
