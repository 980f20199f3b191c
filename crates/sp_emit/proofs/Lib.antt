pub mod Answering
mod Runs
pub mod Numbers
pub mod Commas
mod Named
pub mod Lines
mod StateTexts
mod WorkedStates
mod WorkedSummary
mod Written
