pub use Rattle.sp_query.specs.Trees
pub use Rattle.sp_query.specs.Phrase
pub use Rattle.sp_query.specs.Grammar
pub use Rattle.sp_query.specs.Queries
pub use Rattle.sp_query.specs.Same
pub mod Written
pub mod Printing
