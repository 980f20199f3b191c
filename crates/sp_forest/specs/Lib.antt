pub mod Setting
pub mod Alike
pub mod Dealing
pub mod Numbering
pub mod Driving
pub mod Drivable
