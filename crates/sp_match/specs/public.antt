-- What callers see: what a matcher is, how its moves are told, and what is proved of runs whatever a matcher does.
pub mod Matching
pub mod Seen
pub mod Laws
pub mod Known
