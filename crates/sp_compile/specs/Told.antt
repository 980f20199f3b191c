-- What the whole compiler answers.
use Rattle.std.specs.Prelude.{◌≡◌, ◌⊎◌, Option, Some, None, Result, Ok, Err}
use Rattle.sp_plan.specs.declared.plan.Plan.{Plan}
use Rattle.sp_plan.specs.Compiled.{IsCompiled}
use Rattle.sp_query.specs.declared.query.Query.{Query}
use Rattle.sp_compile.specs.declared.fault.CompileFault.{CompileFault}
use Rattle.sp_compile.specs.declared.fault.CompileFault.TheVariants as f
use Rattle.sp_compile.specs.Checks.{Checks}
use Rattle.sp_compile.specs.Stands.{Stands}

-- The query has no fault, and the plan stands for it and keeps the limits.
pub record IsPlanOf (q : Plan) (query : Query) : Type 0 where
  pub checks : Checks query None
  pub stands : Stands q query
  pub compiled : IsCompiled q

-- What a fault says of a query.
abbrev pub Refuses : Query → CompileFault → Type 0
Refuses query f.Memory = Unit {0}
Refuses query fault = Checks query (Some fault)

-- what was answered is what the checks find, unless memory ran out
abbrev pub IsFound : Option CompileFault → Result Plan CompileFault → Type 0
IsFound found (Ok plan) = found ≡ None
IsFound found (Err fault) = (found ≡ Some fault) ⊎ (fault ≡ f.Memory)
