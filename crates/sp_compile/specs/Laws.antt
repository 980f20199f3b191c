-- What is true of every query.
use Rattle.std.specs.Prelude.{◌≡◌, ℕ, List, Option}
use Rattle.sp_query.specs.declared.query.Query.{Query}
use Rattle.sp_query.specs.Queries.{IsQuery}
use Rattle.sp_compile.specs.declared.fault.CompileFault.{CompileFault}
use Rattle.sp_compile.specs.Checks.{Checks}

-- The checks of a query that a text has find something, a first fault or that there is none, and those of no query find two things.
pub record OneVerdict : Type 0 where
  pub some : (text : List ℕ) (query : Query) → IsQuery text query → (found : Option CompileFault) × Checks query found
  pub only : (query : Query) (one other : Option CompileFault) → Checks query one → Checks query other → one ≡ other
