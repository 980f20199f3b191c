pub mod Names
pub mod History
pub mod State
pub mod Calls
pub mod Waking
pub mod Collecting
pub mod WayHome
pub mod Laws
