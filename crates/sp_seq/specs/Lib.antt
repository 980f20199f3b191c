pub mod Marked
pub mod Unconsumed
pub mod Completed
pub mod Spans
pub mod Learned
