-- Events that come next in an input.
use Rattle.std.specs.Prelude.{ℤ, ◌≤ℤ◌, List}
use Rattle.std.specs.List.{All}
use Rattle.sp_plan.specs.declared.event.Event.{Event}
use Rattle.sp_plan.specs.declared.plan.Plan.{Plan}
use Rattle.sp_plan.specs.Events.{AllFit, NeverGoesBack}

-- The events fit the plan, their times never go back, and lie between the last time before them and the last one behind them.
pub record ComeNext (q : Plan) (old : ℤ) (events : List Event) (new : ℤ) : Type 0 where
  pub fit : AllFit q events
  pub ordered : NeverGoesBack events
  pub after : All (λ e. old ≤ℤ e.time) events
  pub before : All (λ e. e.time ≤ℤ new) events
  pub onward : old ≤ℤ new
