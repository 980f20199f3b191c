-- How an input stands, and what it has read since its source stood at its start.
use Rattle.std.specs.Prelude.{◌≡◌, ◌≤◌, ◌<◌, ℕ, ◌+◌, Bool, true, false, List, [], ◌++◌, length, Option, Some, None, IfSome, take, Result, Ok, Err, IfOk, OnOk, OnErr}
use Rattle.std.specs.declared.alloc.AllocError.{AllocError}
use Rattle.sp_base.specs.Limits.{event_limit, piece_limit}
use Rattle.sp_io.specs.Outside.{SourceState, Gave, Rose}
use Rattle.sp_io.specs.declared.outside.Failed.{Failed}
use Rattle.sp_plan.specs.Events.{AllFit}
use Rattle.sp_plan.specs.declared.event.Event.{Event}
use Rattle.sp_plan.specs.declared.plan.Plan.{Plan}
use Rattle.sp_ports.specs.Giving.{AreGood}
use Rattle.sp_ports.specs.Stopping.{is_end}
use Rattle.sp_rows.specs.Progress.{plan_of}
use Rattle.sp_slack.specs.HeldBack.{sorted, AreTimely}
use Rattle.sp_slack.specs.Standing.{Kept, Stands, all_given}
use Rattle.sp_intake.specs.declared.reader.State.{State}
use Rattle.sp_intake.specs.declared.reader.State.TheVariants.{Going, Stopped, Broken}
use Rattle.sp_intake.specs.declared.reader.Step.{Step}
use Rattle.sp_intake.specs.declared.reader.Step.TheVariants as step
use Rattle.sp_intake.specs.declared.reader.Took.{Took}
use Rattle.sp_intake.specs.declared.reader.Took.TheVariants as took
use Rattle.sp_ports.specs.declared.stop.Stop.{Stop}
use Rattle.sp_ports.specs.declared.stop.Stop.TheVariants.{End, Open}
use Rattle.sp_ports.specs.declared.stop.Stop.TheVariants as stop
use Rattle.sp_intake.specs.Coming.{comes_to, ends_as, IsSettled}
use Rattle.sp_intake.specs.Following.{ComeNext}
use Rattle.sp_intake.specs.Intake.{StopsInPiece}
use Rattle.sp_intake.specs.Loose.{Lateness, kept, loose}
use Rattle.sp_intake.specs.LooseLaws.{punctual}
use Rattle.sp_intake.specs.Reader.{Reader, WereGiven, last_of, texts_of, event_in}
use Rattle.sp_intake.specs.Reading.{Way, read, stop_of}

-- rows that are read, their source seen by its state
pub record RowsAt : Type 0 where
  pub source : SourceState
  pub state : State
  pub reader : Reader

-- rows that go on
abbrev pub going : SourceState → Reader → RowsAt
going source reader = record { source = source; state = Going; reader = reader }

-- why an input gives no more, where it stopped
abbrev pub stop_in : State → Option Stop
stop_in Going = None
stop_in (Stopped stop) = Some stop
stop_in Broken = None

-- the input was read to its end
abbrev pub is_whole : Option Stop → Bool
is_whole None = false
is_whole (Some stop) = is_end stop

-- these events are the first of those
abbrev pub IsFront : List Event → List Event → Type 0
IsFront first events = (others : List Event) × (events ≡ first ++ others)

-- From one state of a source to another these bytes were taken, and these events given: the first of those that the bytes give, or all of them, where reading stopped.
pub record HasReadBy (way : Way) (before after : SourceState) (taken : List ℕ) (events : List Event) (why : Option Stop) : Type 0 where
  pub gave : Gave before.left taken after.left
  pub no_further : StopsInPiece way taken
  pub front : IsFront events (way taken after.ended).events
  pub all : IfSome why (λ stop. events ≡ (way taken after.ended).events)
  pub stop : IfSome why (λ stop. stop ≡ stop_of (way taken after.ended) after.ended)
  -- the source failed exactly where the reading stops open
  pub fault : why ≡ Some Open → Rose before.faults after.faults
  pub told : before.faults < after.faults → why ≡ Some Open
  pub never_falls : before.faults ≤ after.faults

-- the same of a reading in which times may not go back
abbrev pub HasRead : Plan → SourceState → SourceState → List ℕ → List Event → Option Stop → Type 0
HasRead q = HasReadBy (read q)

-- What an input has read of its source, where it gave these events, and whether and why it stopped.
pub record ReadSoFar (q : Plan) (before after : SourceState) (events : List Event) (why : Option Stop) : Type 0 where
  pub taken : List ℕ
  pub has : HasRead q before after taken events why
  pub good : AreGood q events

-- an input that goes on leads where the bytes taken do, with all that may come
pub record Leads (q : Plan) (l : Lateness) (taken : List ℕ) (events : List Event) (now : RowsAt) : Type 0 where
  pub given : WereGiven events now.reader
  pub ended : now.source.ended ≡ now.reader.cutter.ended
  pub coming : now.reader.cutter.ended ≡ false → (more : List ℕ) (ended : Bool) → comes_to events now.reader more ended ≡ loose q l (taken ++ more) ended
  pub ends : now.reader.cutter.ended ≡ true → ends_as events now.reader ≡ loose q l taken true

-- since its source stood so an input has taken these bytes, given these events, and passed over as many as it counted; where it stopped, it knows the texts of the reading
pub record Since (q : Plan) (l : Lateness) (origin : SourceState) (taken : List ℕ) (events : List Event) (now : RowsAt) : Type 0 where
  pub plan : plan_of now.reader.rows ≡ q
  pub lateness : now.reader.lateness ≡ l
  pub has : HasReadBy (kept q l) origin now.source taken events (stop_in now.state)
  pub late : IfSome (stop_in now.state) (λ stop. now.reader.late ≡ (loose q l taken now.source.ended).late)
  pub texts : IfSome (stop_in now.state) (λ stop. texts_of now.reader ≡ (kept q l taken now.source.ended).so_far.texts)
  pub leads : now.state ≡ Going → Leads q l taken events now

-- From one standing to another these bytes were taken of the source, and rows gave these events: whatever was read before, these come behind those. None is late, and without a slack their times never go back.
pub record Reads (old : RowsAt) (bytes : List ℕ) (events : List Event) (new : RowsAt) : Type 0 where
  pub plan : plan_of new.reader.rows ≡ plan_of old.reader.rows
  pub lateness : new.reader.lateness ≡ old.reader.lateness
  pub count : new.reader.given ≡ old.reader.given + length events
  pub few : length events ≤ event_limit
  pub fit : AllFit (plan_of old.reader.rows) events
  pub timely : (first : List Event) → WereGiven first old.reader → AreTimely old.reader.lateness.slack first events
  pub were : (first : List Event) → WereGiven first old.reader → WereGiven (first ++ events) new.reader
  pub next : old.reader.lateness ≡ punctual → ComeNext (plan_of old.reader.rows) (last_of old.reader) events (last_of new.reader)
  pub since : (q : Plan) (l : Lateness) (origin : SourceState) (taken : List ℕ) (first : List Event) → Since q l origin taken first old → Since q l origin (taken ++ bytes) (first ++ events) new

-- from one standing to another rows gave these events
abbrev pub RowsGive : RowsAt → List Event → RowsAt → Type 0
RowsGive old events new = (bytes : List ℕ) × Reads old bytes events new

-- the event that was put in, where the step is one
abbrev pub given_by : Step → Option Event → List Event
given_by step.Event given = event_in given
given_by (step.Stop stop) given = []
given_by step.Ask given = []

-- the same of an answer, which may be want of memory
abbrev pub given_in : Result Step AllocError → Option Event → List Event
given_in (Ok told) given = given_by told given
given_in (Err e) given = []

-- how an input stands behind a step
abbrev pub state_by : Step → State
state_by step.Event = Going
state_by (step.Stop stop) = Stopped stop
state_by step.Ask = Going

-- the same where a row was looked for, which is no step where it gives no event
abbrev pub state_after : Result (Option Step) AllocError → State
state_after (Ok None) = Going
state_after (Ok (Some told)) = state_by told
state_after (Err e) = Broken

-- and the event that it gives, which was put in
abbrev pub given_after : Result (Option Step) AllocError → Option Event → List Event
given_after (Ok None) given = []
given_after (Ok (Some told)) given = given_by told given
given_after (Err e) given = []

-- and where a stop is put in the state
abbrev pub given_where : Took → Option Event → List Event
given_where took.Event given = event_in given
given_where took.Nothing given = []
given_where took.Ask given = []
given_where took.Over given = []

abbrev pub is_over : Took → Bool
is_over took.Event = false
is_over took.Nothing = false
is_over took.Ask = false
is_over took.Over = true

abbrev pub goes_on : State → Bool
goes_on Going = true
goes_on (Stopped stop) = false
goes_on Broken = false

-- no row is left, and the input may go on
pub record IsHungry (reader : Reader) : Type 0 where
  pub settled : IsSettled reader
  pub open_ : reader.cutter.ended ≡ false

-- what a call of a source that had not ended did: the first bytes of a buffer are those that it gave
pub record WasRead (before : SourceState) (buffer : List ℕ) (read : Result ℕ Failed) (next : SourceState) : Type 0 where
  pub size : length buffer ≤ piece_limit
  pub bytes : IfOk read (λ n. Gave before.left (take n buffer) next.left)
  pub untaken : OnErr read (Gave before.left [] next.left)
  pub ended : IfOk read (λ n. n ≡ 0 → next.ended ≡ true)
  pub goes_on : IfOk read (λ n. 0 < n → next.ended ≡ before.ended)
  pub failed_before_end : OnErr read (next.ended ≡ before.ended)
  pub no_fault : OnOk read (next.faults ≡ before.faults)
  pub fault : OnErr read (Rose before.faults next.faults)
  pub never_falls : before.faults ≤ next.faults

-- ---- an input, whose rows' events may be held back

-- what holds events back, and whether the end was told, once all were given
pub record Held : Type 0 where
  pub kept : Kept
  pub drained : Bool

abbrev pub seen_by : Bool → State → State
seen_by true state = state
seen_by false Going = Going
seen_by false (Stopped End) = Going
seen_by false (Stopped (stop.Failed failure)) = Stopped (stop.Failed failure)
seen_by false (Stopped Open) = Stopped Open
seen_by false Broken = Broken

-- whether an input goes on whose rows stand so: it goes on behind their end up to where that is told
abbrev pub seen : Option Held → State → State
seen None state = state
seen (Some held) state = seen_by held.drained state

-- an input, its source seen by its state, and whether it goes on
pub record Standing : Type 0 where
  pub source : SourceState
  pub state : State
  pub rows : RowsAt
  pub held : Option Held

-- how an input stands with these rows, and with this held back
abbrev pub with_held : RowsAt → Option Held → Standing
with_held rows held = record { source = rows.source; state = seen held rows.state; rows = rows; held = held }

-- with these events more it is kept that these are given behind those before
pub record PassesOn (new : Kept) (first more : List Event) (given : ℕ) (events : List Event) : Type 0 where
  pub stands : Stands new (first ++ more) (given + length events)
  pub are : take (given + length events) (sorted (first ++ more)) ≡ take given (sorted first) ++ events

-- these events were offered, and those given
pub record Passes (old new : Kept) (more events : List Event) : Type 0 where
  pub slack : new.slack ≡ old.slack
  pub on : (first : List Event) (given : ℕ) → Stands old first given → PassesOn new first more given events

-- rows gave the first list, and the input the second: the same where nothing is held back
abbrev pub Between : Option Held → Option Held → List Event → List Event → Type 0
Between None None more events = events ≡ more
Between None (Some new) more events = ⊥
Between (Some old) None more events = ⊥
Between (Some old) (Some new) more events = Passes old.kept new.kept more events

-- all was given that is to be given so far
abbrev pub IsIdle : Option Held → Type 0
IsIdle None = Unit {0}
IsIdle (Some held) = (first : List Event) (given : ℕ) → Stands held.kept first given → length (all_given held.kept first) ≡ given

abbrev pub is_stopped : State → Bool
is_stopped Going = false
is_stopped (Stopped stop) = true
is_stopped Broken = false

-- no more events are held back than may come before others, once the rows ended
abbrev pub EndsAs : Option Held → State → Type 0
EndsAs None state = Unit {0}
EndsAs (Some held) state = held.kept.ended ≡ is_whole (stop_in state)

-- an input is seen as it is, and where it stopped it gave all
pub record IsSound (now : Standing) : Type 0 where
  pub source : now.source ≡ now.rows.source
  pub state : now.state ≡ seen now.held now.rows.state
  pub ended : EndsAs now.held now.rows.state
  pub idle : is_stopped now.state ≡ true → IsIdle now.held

-- From one standing to another an input took these bytes of its source and gave these events, of those that its rows gave.
pub record GivesBy (old : Standing) (bytes : List ℕ) (events : List Event) (new : Standing) : Type 0 where
  pub more : List Event
  pub reads : Reads old.rows bytes more new.rows
  pub between : Between old.held new.held more events
  pub sound : IsSound new

-- from one standing to another an input gave these events
abbrev pub Gives : Standing → List Event → Standing → Type 0
Gives old events new = (bytes : List ℕ) × GivesBy old bytes events new

-- whatever an input gives from here on, it has read that of a source that stood so
abbrev pub ReadsFrom : Plan → SourceState → Standing → Type 0
ReadsFrom q before first = (events : List Event) (last : Standing) → Gives first events last → ReadSoFar q before last.source events (stop_in last.state)

-- The events that rows gave, of which so many were given.
pub record Stood (reader : Reader) (held : Held) : Type 0 where
  pub events : List Event
  pub given : ℕ
  pub stands : Stands held.kept events given
  pub were : WereGiven events reader
  pub fit : AllFit (plan_of reader.rows) events

-- What a reader knows of what it holds back: for some events it stands so.
pub record Holds (reader : Reader) (state : State) (held : Held) : Type 0 where
  pub stood : ∥ Stood reader held ∥₁
  pub offered : held.kept.offered ≡ reader.given
  pub slack : held.kept.slack ≡ reader.lateness.slack
  pub ended : held.kept.ended ≡ is_whole (stop_in state)
  pub untold : state ≡ Going → held.drained ≡ false
  pub idle : is_stopped (seen_by held.drained state) ≡ true → IsIdle (Some held)

-- where nothing is held back, no event may be late
abbrev pub HoldsBack : Reader → State → Option Held → Type 0
HoldsBack reader state None = reader.lateness ≡ punctual
HoldsBack reader state (Some held) = Holds reader state held
