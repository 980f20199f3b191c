pub mod Doing
pub mod Seats
