pub mod Spelling
pub mod Reading
pub mod Placed
pub mod Laws
