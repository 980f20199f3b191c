pub mod Calm
pub mod Counting
pub mod Guessing
pub mod Journaled
pub mod Limiting
pub mod Spreading
pub mod Laws
