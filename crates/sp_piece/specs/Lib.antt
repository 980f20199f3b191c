pub mod Lending
pub mod Reading
pub mod Pieced
pub mod Keeping
pub mod Begun
pub mod Alike
pub mod Done
