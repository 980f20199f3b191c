pub mod Asked
pub mod Predictors
pub mod Coming
pub mod RunEnds
pub mod Report
pub mod Over
pub mod Summing
pub mod Prompt
