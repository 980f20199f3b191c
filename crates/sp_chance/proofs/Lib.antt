mod Totals
mod Cells
mod Whole
mod Counting
mod Columns
mod Ring
mod Worked
mod Ordered
pub mod Teaching
pub mod Many
