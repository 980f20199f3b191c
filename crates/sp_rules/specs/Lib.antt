pub mod Lawful
pub mod Kept
pub mod Schedules
pub mod Returning
pub mod ComingHome
pub mod ByGroups
pub mod StayingLent
