pub mod Traced
pub mod Keeping
pub mod Told
