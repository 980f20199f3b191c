pub mod Crossing
pub mod Entering
pub mod StaysLent
pub mod TrueAfter
pub mod TakenUp
