pub mod Boxed
pub mod Registered
pub mod Truth
