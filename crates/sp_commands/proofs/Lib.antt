mod Alike
mod AlikeListings
mod AlikeTraces
pub mod Bringing
pub mod Came
mod Checking
pub mod Completing
mod Differing
pub mod Drills
pub mod Graphing
pub mod Holding
mod LinesOf
mod OneCheck
pub mod OneCommand
mod OneGraph
mod OneOutcome
mod OneRun
pub mod Punctual
pub mod ReadAndWritten
pub mod Running
mod Tracing
mod TwoTexts
mod WorkedChecks
