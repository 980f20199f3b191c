pub mod Giving
pub mod Stopping
pub mod Taking
