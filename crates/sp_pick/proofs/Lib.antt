pub mod Standing
pub mod Climbing
pub mod Searched
pub mod Turned
pub mod Freed
pub mod Ordered
pub mod Taken
pub mod Counting
pub mod Fronts
pub mod Ranking
pub mod Found
pub mod Waiting
pub mod Descending
pub mod Walked
pub mod Sorting
mod Worked
