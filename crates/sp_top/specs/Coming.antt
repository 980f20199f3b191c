-- What came of an input so far that a run is driven from, whose events may be late.
use Rattle.std.specs.Prelude.{◌≡◌, ◌<◌, ℕ, false, List, Option, Some, IfSome}
use Rattle.sp_io.specs.Outside.{SourceState, Gave, Rose}
use Rattle.sp_plan.specs.declared.event.Event.{Event}
use Rattle.sp_plan.specs.declared.plan.Plan.{Plan}
use Rattle.sp_ports.specs.declared.stop.Stop.{Stop}
use Rattle.sp_ports.specs.declared.stop.Stop.TheVariants.{Open}
use Rattle.sp_intake.specs.Loose.{Lateness}
use Rattle.sp_intake.specs.Pieces.{Asked}
use Rattle.sp_intake.specs.Standing.{Standing, Gives, IsFront, stop_in}
use Rattle.sp_commands.specs.Ends.{came_within, late_status}
use Rattle.sp_commands.specs.Given.{StopsInTime}

-- how many events an input has passed over
abbrev pub late_in : Standing → ℕ
late_in now = now.rows.reader.late

-- From one state of a source to another these bytes were taken, and these events given: the first of those that come of the bytes, or all of them,
-- where reading stopped; so many events were passed over.
pub record CameSoFar (q : Plan) (l : Lateness) (origin now : SourceState) (events : List Event) (why : Option Stop) (late : ℕ) : Type 0 where
  pub taken : List ℕ
  pub gave : Gave origin.left taken now.left
  pub in_time : StopsInTime (came_within q l) taken
  pub front : IsFront events (came_within q l taken now.ended).events
  pub all : IfSome why (λ stop. events ≡ (came_within q l taken now.ended).events)
  pub stop : IfSome why (λ stop. stop ≡ (came_within q l taken now.ended).stop)
  pub status : IfSome why (λ stop. late_status l.rule late stop ≡ (came_within q l taken now.ended).status)
  -- the source failed exactly where the reading stops open
  pub fault : why ≡ Some Open → Rose origin.faults now.faults
  pub told : origin.faults < now.faults → why ≡ Some Open

-- whatever an input gives from here on, that came of a source that stood so
abbrev pub ComesFrom : Plan → Lateness → SourceState → Standing → Type 0
ComesFrom q l origin first =
    (events : List Event) (last : Standing) → Gives first events last → CameSoFar q l origin last.source events (stop_in last.state) (late_in last)

-- These events had been given when the source was last asked: just what comes of the bytes before the last piece.
pub record CameBefore (q : Plan) (l : Lateness) (origin now : SourceState) (before : List Event) : Type 0 where
  pub taken : List ℕ
  pub gave : Gave origin.left taken now.left
  pub in_time : StopsInTime (came_within q l) taken
  pub are : before ≡ (came_within q l in_time.front false).events

-- and whenever an input asks, it had given what came before of a source that stood so
abbrev pub AsksInTime : Plan → Lateness → SourceState → Standing → Type 0
AsksInTime q l origin first = (before events : List Event) (last : Standing) → Asked first before events last → CameBefore q l origin last.source before
