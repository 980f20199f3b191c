pub mod Marks
pub mod Gathering
pub mod Sweeping
pub mod Spanning
pub mod Feeding
pub mod Adding
pub mod MoreIsKnown
