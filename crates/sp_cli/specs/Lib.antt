pub mod Numbers
pub mod Options
pub mod Commands
pub mod Paired
pub mod Limits
pub mod PairedCommands
