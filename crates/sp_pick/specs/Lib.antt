pub mod Paths
pub mod Picking
pub mod Turning
pub mod Ranks
