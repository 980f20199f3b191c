pub mod AllGiven
pub mod FitReading
pub mod Gave
pub mod HoldingBack
pub mod InOrder
pub mod Leading
pub mod Suiting
pub mod Since
pub mod Taking
pub mod Asking
pub mod Crossing
pub mod LooseReading
pub mod LooseGood
pub mod LooseGrowing
mod WorkedLoose
