mod LastBound
mod HeldSides
mod MaskBits
mod Holdings
mod Columns
pub mod PutColumns
mod WorkedHeld
mod Blocks
mod Pages
mod Released
pub mod Worked
mod WorkedMoves
mod WorkedNegation
mod WorkedReading
mod WorkedCompiled
mod Products
mod Integers
mod Sizes
mod Spines
mod Fitting
mod Zips
mod Parts
mod Decided
mod SamePlans
pub mod Readings
mod KnownAnswers
mod WorkedKnown
