pub mod Drill
pub mod Query
