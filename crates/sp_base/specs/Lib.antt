pub mod Limits
pub mod Marks
pub mod Commas
pub mod Numbers
pub mod Place
pub mod Merged
