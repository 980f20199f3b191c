pub mod Reading
pub mod Schedules
