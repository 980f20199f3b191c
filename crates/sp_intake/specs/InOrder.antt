-- What an input gives whose events are held back, in the order of time.
use Rattle.std.specs.Prelude.{◌≡◌, ℕ, false, List, IfSome}
use Rattle.sp_io.specs.Outside.{SourceState}
use Rattle.sp_plan.specs.declared.event.Event.{Event}
use Rattle.sp_plan.specs.declared.plan.Plan.{Plan}
use Rattle.sp_ports.specs.Giving.{AreGood}
use Rattle.sp_intake.specs.Intake.{StopsInPiece}
use Rattle.sp_intake.specs.Loose.{Lateness, in_order, loose}
use Rattle.sp_intake.specs.Pieces.{Asked}
use Rattle.sp_intake.specs.Standing.{Standing, HasReadBy, Gives, stop_in}

-- What an input has read of its source, with these bytes: the events that it gave are the first of those that were kept, by time, or all that are to be given of them, where it stopped.
pub record ReadInOrder (q : Plan) (l : Lateness) (before : SourceState) (taken : List ℕ) (events : List Event) (last : Standing) : Type 0 where
  pub has : HasReadBy (in_order q l) before last.source taken events (stop_in last.state)
  pub late : IfSome (stop_in last.state) (λ stop. last.rows.reader.late ≡ (loose q l taken last.source.ended).late)
  pub good : AreGood q events

-- whatever an input gives from here on, it has read that of a source that stood so
abbrev pub ReadsInOrder : Plan → Lateness → SourceState → Standing → Type 0
ReadsInOrder q l before first = (events : List Event) (last : Standing) → Gives first events last → (taken : List ℕ) × ReadInOrder q l before taken events last

-- What it has read, where the first list had been given when it last asked its source: just what is to be given of the bytes before the last piece.
pub record AskedInOrder (q : Plan) (l : Lateness) (before : SourceState) (taken : List ℕ) (given events : List Event) (now : Standing) : Type 0 where
  pub read : ReadInOrder q l before taken events now
  pub last : StopsInPiece (in_order q l) taken
  pub are : given ≡ (in_order q l last.front false).events

-- whatever an input gives from here on, and whenever it asks, it has read that of a source that stood so
abbrev pub AsksInOrder : Plan → Lateness → SourceState → Standing → Type 0
AsksInOrder q l before first = (given events : List Event) (last : Standing) → Asked first given events last → (taken : List ℕ) × AskedInOrder q l before taken given events last
