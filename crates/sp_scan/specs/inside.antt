-- The pairs of a run as two lists, and what counts for a run next.
pub mod Joined
pub mod Ahead
-- An event at hand, how far its handling has come, and whether it may start a run.
pub mod Offer
pub mod Shown
pub mod Starting
