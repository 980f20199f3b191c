pub mod HeldBack
pub mod Waiting
pub mod Standing
pub mod Laws
