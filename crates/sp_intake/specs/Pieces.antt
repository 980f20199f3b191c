-- What an input had given when it last asked its source for a piece.
use Rattle.std.specs.Prelude.{◌≡◌, ◌≤◌, ◌⊎◌, ◌+◌, ℕ, false, List, [], ◌++◌, length, Option}
use Rattle.sp_base.specs.Limits.{event_limit, piece_limit}
use Rattle.sp_io.specs.Outside.{SourceState}
use Rattle.sp_plan.specs.declared.event.Event.{Event}
use Rattle.sp_plan.specs.declared.plan.Plan.{Plan}
use Rattle.sp_ports.specs.Giving.{AreGood}
use Rattle.sp_intake.specs.declared.reader.State.TheVariants.{Going}
use Rattle.sp_ports.specs.declared.stop.Stop.{Stop}
use Rattle.sp_intake.specs.Intake.{TakesNoFurther}
use Rattle.sp_intake.specs.Reading.{read}
use Rattle.sp_intake.specs.Standing.{RowsAt, Standing, HasRead, IsHungry, IsIdle, Reads, GivesBy, stop_in}

-- rows that go on took one piece of their source, and gave no event
pub record RowsTake (old new : RowsAt) : Type 0 where
  pub piece : List ℕ
  pub short : length piece ≤ piece_limit
  pub reads : Reads old piece [] new

-- an input that goes on took one piece of its source, and gave no event
pub record TakesPiece (old new : Standing) : Type 0 where
  pub piece : List ℕ
  pub short : length piece ≤ piece_limit
  pub gives : GivesBy old piece [] new

-- An input gave the first of its events, had then no whole row left, and took one piece of its source, the last: it gave the others of that.
pub record AskedBehind (old : Standing) (before events : List Event) (new : Standing) : Type 0 where
  pub front : List ℕ
  pub between : Standing
  pub first : GivesBy old front before between
  pub going : between.rows.state ≡ Going
  pub hungry : IsHungry between.rows.reader
  pub idle : IsIdle between.held
  pub piece : List ℕ
  pub short : length piece ≤ piece_limit
  pub others : List Event
  pub last : GivesBy between piece others new
  pub are : events ≡ before ++ others
  pub few : new.rows.reader.given + new.rows.reader.late ≤ event_limit

-- From one standing to another an input gave events, and had given the first list when it last asked its source; none where it did not ask.
abbrev pub Asked : Standing → List Event → List Event → Standing → Type 0
Asked old before events new = (before ≡ []) × GivesBy old [] events new ⊎ AskedBehind old before events new

-- What an input has read of its source, where the first list had been given when it last asked it: just what the bytes before the last piece give.
pub record AskedSoFar (q : Plan) (origin now : SourceState) (before events : List Event) (why : Option Stop) : Type 0 where
  pub taken : List ℕ
  pub has : HasRead q origin now taken events why
  pub good : AreGood q events
  pub last : TakesNoFurther q taken
  pub are : before ≡ (read q last.front false).events

-- whatever an input gives from here on, and whenever it asks, it has read that of a source that stood so
abbrev pub AsksFrom : Plan → SourceState → Standing → Type 0
AsksFrom q origin first = (before events : List Event) (last : Standing) → Asked first before events last → AskedSoFar q origin last.source before events (stop_in last.state)
