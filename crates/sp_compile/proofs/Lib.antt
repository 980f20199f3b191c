pub mod OneFault
pub mod OneTruth
pub mod Gathering
pub mod Taken
pub mod WindowLimits
pub mod LastElement
pub mod Placed
pub mod Limits
mod Powers
mod Spined
mod Timed
mod Expressions
mod Predicates
pub mod Naming
pub mod Opened
pub mod Staged
pub mod Sums
pub mod Sorted
pub mod EarlierNames
mod Apart
mod Ends
mod SomeVerdict
