-- What a matcher keeps between two events.
use Rattle.std.specs.Prelude.{ℕ, List}
use Rattle.std.specs.List.{All}
use Rattle.sp_plan.specs.declared.plan.Plan.{Plan}
use Rattle.sp_plan.specs.Compiled.{IsCompiled}
use Rattle.sp_match.specs.public.Laws.{Ordered}
use Rattle.sp_match.specs.inside.Kept.{Kept}
use Rattle.sp_match.specs.inside.Good.{Good}
use Rattle.sp_match.specs.inside.Going.{IsIdle, standing}

-- The plan is compiled, and the runs are as a matcher makes them, in the order of their start.
pub record IsKept (q : Plan) (count : ℕ) (ks : List Kept) : Type 0 where
  pub compiled : IsCompiled q
  pub good : All (Good q) ks
  pub idle : All IsIdle ks
  pub ordered : Ordered (standing count ks)
