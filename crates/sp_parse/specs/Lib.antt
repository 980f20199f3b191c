pub mod Reads
pub mod Follow
pub mod Parses
pub mod Codes
pub mod Clauses
pub mod Laws
