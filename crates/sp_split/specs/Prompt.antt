-- What an outlet has by the time that an intake asks the outside for more.
use Rattle.std.specs.Prelude.{ℕ, false, List}
use Rattle.sp_io.specs.Outside.{Grew}
use Rattle.sp_plan.specs.declared.event.Event.{Event}
use Rattle.sp_plan.specs.declared.found.Match.{Match}
use Rattle.sp_plan.specs.declared.plan.Plan.{Plan}
use Rattle.sp_plan.specs.Sequential.{whole}
use Rattle.sp_ports.specs.Taking.{OutletState, Took}

-- an outlet took these matches, and whatever it took more stands behind them
pub record TookBefore (q : Plan) (matches : List Match) (old new : OutletState) : Type 0 where
  pub between : OutletState
  pub took : Took q matches old between
  pub more : List ℕ
  pub grew : Grew between.held more new.held

-- an intake gave these events, and where it asked the outside last, the outlet had all matches of the windows that the events before close
pub record AskedBehind {A : Type 0} (asks : List Event → List Event → A → Type 0) (now : A) (q : Plan) (events : List Event) (old new : OutletState) : Type 0 where
  pub before : List Event
  pub asked : asks before events now
  pub took : TookBefore q (whole q before false).matches old new

-- so it was, whatever it gave
pub record IsPrompt {A : Type 0} (asks : List Event → List Event → A → Type 0) (now : A) (q : Plan) (old new : OutletState) : Type 0 where
  pub events : List Event
  pub behind : AskedBehind asks now q events old new
