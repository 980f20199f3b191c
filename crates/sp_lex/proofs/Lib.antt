pub mod Tables
pub mod Literals
pub mod Longest
pub mod Front
pub mod Lexing
pub mod Faults
pub mod Alone
