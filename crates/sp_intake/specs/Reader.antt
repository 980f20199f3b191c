-- Where a reader of events stands while it goes on.
use Rattle.std.specs.Prelude.{◌≡◌, ◌≤◌, ℕ, ◌+◌, ℤ, pos, Bool, true, false, ◌∷◌, [], ◌++◌, List, length, Option, Some, None, slice_get, ◌==◌}
use Rattle.std.specs.Option.{option_map}
use Rattle.sp_base.specs.Limits.{event_limit}
use Rattle.sp_cut.specs.CutRows.{CutRow}
use Rattle.sp_cut.specs.Left.{Left}
use Rattle.sp_plan.specs.declared.event.Event.{Event}
use Rattle.sp_plan.specs.declared.plan.Kind.TheVariants.{Int}
use Rattle.sp_ports.specs.declared.stop.Failure.{Failure}
use Rattle.sp_ports.specs.declared.stop.Failure.TheVariants.{Row, Limit}
use Rattle.sp_rows.specs.declared.rows.Rows.{Rows}
use Rattle.sp_rows.specs.Progress.{plan_of, is_loose, read_of}
use Rattle.sp_rows.specs.Rows.{time_place_in}
use Rattle.sp_slack.specs.HeldBack.{greatest, before, is_before}
use Rattle.sp_slack.specs.declared.late.LateRule.{LateRule}
use Rattle.sp_slack.specs.declared.late.LateRule.TheVariants.{Refuse, Drop}
use Rattle.sp_intake.specs.declared.reader.Fate.{Fate}
use Rattle.sp_intake.specs.declared.reader.Fate.TheVariants.{Kept, PassedOver, Late, Full}
use Rattle.sp_intake.specs.Loose.{Lateness, Loose, take_row}

-- What it has left to cut, the rows that it has read, how many these were, how many events they gave and how many were passed over, the greatest
-- time of those that they gave, and when an event is late.
pub record Reader : Type 0 where
  pub cutter : Left
  pub rows : Rows
  pub count : ℕ
  pub given : ℕ
  pub late : ℕ
  pub greatest : Option ℤ
  pub lateness : Lateness

abbrev pub time_or_nought : Option ℤ → ℤ
time_or_nought None = pos 0
time_or_nought (Some t) = t

-- the greatest time of the events that were given, 0 before the first
abbrev pub last_of : Reader → ℤ
last_of reader = time_or_nought reader.greatest

-- these are so many events, and this is the greatest of their times
pub record AreCounted (events : List Event) (many : ℕ) (last : Option ℤ) : Type 0 where
  pub count : length events ≡ many
  pub latest : greatest events ≡ last

-- as far as a reader knows, it gave these events
abbrev pub WereGiven : List Event → Reader → Type 0
WereGiven events reader = AreCounted events reader.given reader.greatest

-- the texts that it knows, by their numbers
abbrev pub texts_of : Reader → List (List ℕ)
texts_of reader = (read_of reader.rows).texts

-- how far the reading has come, with the events that were given
abbrev pub reading_of : List Event → Reader → Loose
reading_of events reader = record { reading = record { so_far = read_of reader.rows; events = events; stopped = None }; late = reader.late }

-- The time's column holds whole numbers, the header's places are as many as the plan's columns, and times may go back.
pub record SuitsPlan (rows : Rows) : Type 0 where
  pub timed : (place : ℕ) → (plan_of rows).schema.time ≡ Some place → option_map (λ column. column.kind) (slice_get (plan_of rows).schema.columns place) ≡ Some Int
  pub placed : (places : List ℕ) → (read_of rows).places ≡ Some places → length places ≡ length (plan_of rows).schema.columns
  pub loose : is_loose rows ≡ true

-- the count is that of the rows that were read, at most the limit, and as many were cut
pub record HasCounted (cutter : Left) (rows : Rows) (many : ℕ) : Type 0 where
  pub count : many ≡ (read_of rows).read
  pub small : many ≤ 2097152
  pub cut : cutter.given ≡ many
  pub suits : SuitsPlan rows

abbrev pub IsReady : Reader → Type 0
IsReady reader = HasCounted reader.cutter reader.rows reader.count

-- the event, where there is one
abbrev pub event_in : Option Event → List Event
event_in None = []
event_in (Some e) = e ∷ []

-- what becomes of an event that is late or not, by the rule for late ones and where the limit of events was reached or not
abbrev pub fate_by : Bool → LateRule → Bool → Fate
fate_by true Refuse full = Late
fate_by true Drop true = Full
fate_by true Drop false = PassedOver
fate_by false rule true = Full
fate_by false rule false = Kept

-- what becomes of the event that the last row gave
abbrev pub fate : Reader → Event → Fate
fate reader e = fate_by (is_before (before reader.lateness.slack reader.greatest) e) reader.lateness.rule (reader.given + reader.late == event_limit)

-- why the reading stops at an event, where it does; the row of a late one fails so
abbrev pub failure_by : Fate → Failure → Option Failure
failure_by Kept own = None
failure_by PassedOver own = None
failure_by Late own = Some own
failure_by Full own = Some (Limit event_limit)

-- how the row of a late event fails
abbrev pub late_failure : Reader → Failure
late_failure reader = Row 6 reader.count (time_place_in (plan_of reader.rows) (read_of reader.rows).places)

-- a row was taken, and gave these events
abbrev pub TakesRow : CutRow → List Event → Reader → Reader → Type 0
TakesRow next given old new =
    (before : List Event) → WereGiven before old → reading_of (before ++ given) new ≡ take_row (plan_of old.rows) old.lateness (reading_of before old) next

-- a reading has these events, has passed over so many, knows these texts, and this stopped it
pub record FailedBy (before : List Event) (passed : ℕ) (known : List (List ℕ)) (failure : Failure) (r : Loose) : Type 0 where
  pub events : r.reading.events ≡ before
  pub late : r.late ≡ passed
  pub texts : r.reading.so_far.texts ≡ known
  pub stopped : r.reading.stopped ≡ Some failure

-- the next row stops the reading for this reason, and gives no event; these texts are known behind it
abbrev pub Fails : CutRow → Failure → List (List ℕ) → Reader → Type 0
Fails next failure known old =
    (before : List Event) → WereGiven before old → FailedBy before old.late known failure (take_row (plan_of old.rows) old.lateness (reading_of before old) next)
