mod Backs
mod Histories
mod InOrder
pub mod Seats
mod Steps
mod Tickets
pub mod Told
mod Worked
