pub mod Parts
pub mod Shifted
pub mod Laws
pub mod Seen
pub mod Stretches
pub mod Moving
