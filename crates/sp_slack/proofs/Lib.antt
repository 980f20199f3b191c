pub mod Sorting
pub mod Growing
pub mod Keeping
pub mod Merging
pub mod Worked
