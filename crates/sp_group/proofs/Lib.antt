pub mod Rising
mod Worked
mod RolledBack
mod OutAtPromotion
mod GroupWithinAReading
mod AtTheBound
mod BothOutcomes
mod GroupsOutOfOrder
