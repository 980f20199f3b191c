-- What callers see of a matcher, and what is laid down of its inside.
pub mod public
pub mod inside
