-- What callers see of windows, and when it stands for a list of events.
use Rattle.std.specs.Prelude.{◌≡◌, ◌≤◌, ℕ, Bool, List, length, Some, None, if◌then◌else◌}
use Rattle.sp_base.specs.Limits.{event_limit}
use Rattle.sp_plan.specs.declared.event.Event.{Event}
use Rattle.sp_plan.specs.declared.plan.Plan.{Plan}
use Rattle.sp_plan.specs.Windows as spec
use Rattle.sp_plan.specs.WindowNumbers.{Good}
use Rattle.sp_window.specs.declared.windows.Window.{Window}
use Rattle.sp_window.specs.Times.{last_stamp}
use Rattle.sp_window.specs.Holding.{Held, IsHeld}

-- What is kept of the windows of a plan: how many events were fed, the time of the last one, whether the input has ended, and the
-- windows themselves, into which callers don't look.
pub record Kept : Type 0 where
  pub plan : Plan
  pub fed : ℕ
  pub time : ℕ
  pub ended : Bool
  pub held : Held

-- what is kept stands for these events, and for whether input has ended behind them
pub record Stands (w : Kept) (events : List Event) (ended : Bool) : Type 0 where
  pub good : Good w.plan events
  pub few : length events ≤ event_limit
  pub fed_is : w.fed ≡ length events
  pub time_is : w.time ≡ last_stamp events
  pub ended_is : w.ended ≡ ended
  pub held_is : IsHeld w.plan events ended w.held

-- a window as it is shown: its last event is told once it is closed
abbrev pub shown : spec.Window → Window
shown w = record { first = w.first; end = if w.closed then Some w.last else None }
