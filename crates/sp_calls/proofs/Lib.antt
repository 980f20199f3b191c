pub mod Live
pub mod Ordered
