-- What a run ends with that has all events at hand.
use Rattle.std.specs.Prelude.{◌≡◌, true, List}
use Rattle.sp_plan.specs.declared.event.Event.{Event}
use Rattle.sp_plan.specs.declared.plan.Plan.{Plan}
use Rattle.sp_plan.specs.Sequential.{whole}
use Rattle.sp_ports.specs.Stopping.{is_end}
use Rattle.sp_ports.specs.declared.stop.Stop.{Stop}
use Rattle.sp_split.specs.declared.ended.Ended.{Ended}
use Rattle.sp_cli.specs.Commands.{Speed}
use Rattle.sp_top.specs.Report.{Reports}

-- V and T are the tables and the values of the predictors that are left
module _ {V : Type 0} {T : V → Type 0} where
  -- A run of this plan and speed went over all of these events, up to what comes behind them: it found their matches, and where they are those of an
  -- input that was read to its end it is reported.
  pub record WentOver (q : Plan) (speed : Speed) (events : List Event) (stop : Stop) (e : Ended V T) : Type 0 where
    pub plan : e.core.plan ≡ q
    pub given : e.core.machine.events ≡ events
    pub found : e.core.machine.emitted ≡ (whole q events (is_end stop)).matches
    pub reports : is_end stop ≡ true → Reports speed events e
