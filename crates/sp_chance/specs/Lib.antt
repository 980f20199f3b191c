pub mod Matrices
pub mod Counted
pub mod Recent
pub mod Learned
pub mod Shares
pub mod Taught
