-- Work that stays spread, while a journal grows.
use Rattle.std.specs.Prelude.{ℕ, List}
use Rattle.sp_plan.specs.declared.plan.Plan.{Plan}
use Rattle.sp_group.specs.declared.step.Entry.{Entry}
use Rattle.sp_group.specs.Machine.{Machine}
use Rattle.sp_group.specs.Steps.{Spread, IsLentOut}
use Rattle.sp_spread.specs.Journaled.{EndsInLease}

-- The journal has spread its work over n places more than one; and where it ends in a lease, all that can be out is out.
pub record Spreading (q : Plan) (bound n : ℕ) (m : Machine) (journal : List Entry) : Type 0 where
  pub spread : Spread q bound n journal
  pub lent : EndsInLease journal → IsLentOut q bound n m
