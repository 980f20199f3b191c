pub mod Proofs
pub mod Checking
pub mod Verdicts
pub mod Laws
pub mod Spans
pub mod Flags
pub mod Leading
pub mod Taking
