-- A run in plain values, and what every run of a matcher keeps between two events.
pub mod Kept
pub mod Taking
pub mod Good
pub mod Keeping
-- What an event does to the runs, and how far its handling has come.
pub mod Takers
pub mod Offer
pub mod Effects
pub mod Turn
pub mod Shows
pub mod Tally
pub mod Going
pub mod Handling
-- What runs want of later events.
pub mod Wanted
