mod Worked
pub mod Lasts
pub mod Known
pub mod Givens
pub mod LastBound
pub mod Walking
pub mod Fitting
pub mod TextsThere
