-- What the runs and what is told are against the definitions' handling of an event.
use Rattle.std.specs.Prelude.{◌≡◌, List}
use Rattle.sp_plan.specs.declared.plan.Plan.{Plan}
use Rattle.sp_plan.specs.Runs.{State}
use Rattle.sp_plan.specs.Moves.{Acting, Told, apply_all, told}
use Rattle.sp_match.specs.inside.Kept.{Kept}
use Rattle.sp_match.specs.inside.Effects.{open_runs}

-- The runs that stay are those that the moves lead to, and what is told is told of the moves.
pub record Shows (q : Plan) (s : State) (a : Acting) (ks : List Kept) (ts : List Told) : Type 0 where
  pub now : open_runs ks ≡ a.now.open_runs
  pub told : ts ≡ told q s a.moves
  pub led : a.now ≡ apply_all s a.moves
