pub mod Trees
pub mod Phrase
pub mod Grammar
pub mod Queries
pub mod Same
