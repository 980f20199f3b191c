-- What the stages of a run do to a core.
use Rattle.std.specs.Prelude.{◌≡◌, ◌⊎◌, ◌≤◌, ℕ, Bool, true, false, List, [], ◌∷◌, ◌++◌, Option}
use Rattle.sp_plan.specs.declared.event.Event.{Event}
use Rattle.sp_plan.specs.declared.found.Match.{Match}
use Rattle.sp_plan.specs.Windows.{closed}
use Rattle.sp_piece.specs.Pieced.{Pieced}
use Rattle.sp_group.specs.Machine.{Ticket}
use Rattle.sp_core.specs.Returning.{CanComeHome}
use Rattle.sp_core.specs.Running.{Running}
use Rattle.sp_ports.specs.declared.intake.Next.{Next}
use Rattle.sp_ports.specs.declared.intake.Next.TheVariants as next
use Rattle.sp_ports.specs.declared.stop.Stop.{Stop}
use Rattle.sp_ports.specs.Stopping.{StoppedFor}
use Rattle.sp_split.specs.declared.feeding.Fed.{Fed}
use Rattle.sp_split.specs.declared.feeding.Fed.TheVariants as f
use Rattle.sp_split.specs.declared.turning.Turn.{Turn}
use Rattle.sp_split.specs.declared.turning.Turn.TheVariants as t
use Rattle.sp_base.specs.Limits.{batch_limit}
use Rattle.sp_spread.specs.Journaled.{fed, MakesNoChild}
use Rattle.sp_spread.specs.Limiting.{AsksAtMost}

-- The core took steps: its plan and bound are the same, what stands in the journal as fed are still its events, no version was made below
-- another one, and no lease asked for more events than any may.
pub record WentOn (old new : Running) : Type 0 where
  pub plan : new.plan ≡ old.plan
  pub bound : new.bound ≡ old.bound
  pub fed_are : fed old.journal ≡ old.machine.events → fed new.journal ≡ new.machine.events
  pub alone : MakesNoChild old.journal → MakesNoChild new.journal
  pub asked : AsksAtMost batch_limit old.journal → AsksAtMost batch_limit new.journal

-- The core was fed, and no more.
pub record FedOn (old new : Running) : Type 0 where
  pub on : WentOn old new
  pub more : List Event
  pub events : new.machine.events ≡ old.machine.events ++ more
  pub emitted : new.machine.emitted ≡ old.machine.emitted
  pub finished : new.machine.finished ≡ old.machine.finished
  pub tickets : new.machine.tickets ≡ old.machine.tickets

-- An intake has not ended nor stopped since.
abbrev pub GoesOn : {A : Type 0} → (A → Bool) → (A → ℕ) → A → A → Type 0
GoesOn ended stops from now = (ended now ≡ ended from) × (stops now ≡ stops from)

-- Why feeding ended, and whether the core was told of an end: it may go on where the intake has neither ended nor stopped, whether more is at
-- hand or not; the end of the input was reached; or the intake stopped before, for this reason.
abbrev pub IsFed : {A : Type 0} → (A → Bool) → (A → ℕ) → (A → Option Stop) → A → A → Fed → Bool → Type 0
IsFed ended stops cause from now f.More told = (told ≡ false) × GoesOn ended stops from now
IsFed ended stops cause from now f.Dry told = (told ≡ false) × GoesOn ended stops from now
IsFed ended stops cause from now f.End told = (told ≡ true) × (ended now ≡ true)
IsFed ended stops cause from now (f.Stop reason) told = (told ≡ false) × StoppedFor stops cause from now reason

-- what an intake answered was taken in so
abbrev pub IsTakenIn : Next → Fed → Bool → Type 0
IsTakenIn (next.Event e) fed told = (fed ≡ f.More) × (told ≡ false)
IsTakenIn next.End fed told = (fed ≡ f.End) × (told ≡ true)
IsTakenIn (next.Stop reason) fed told = (fed ≡ f.Stop reason) × (told ≡ false)
IsTakenIn next.Memory fed told = ⊥

-- Behind some events an intake gave more: it asked the outside only where it might, and then before it gave the first of them.
abbrev pub AskedOn : {A : Type 0} → (A → List Event → List Event → A → Type 0) → Type 0 → List Event → List Event → A → A → Type 0
AskedOn {A} asks may events later old new = (from : A) (before : List Event) → asks from before events old → asks from before later new ⊎ (may × asks from events later new)

-- The core took steps that feed nothing, and emitted these matches: its plan and bound are the same, and what stands in the journal as fed
-- are still its events.
pub record Advanced (old new : Running) (matches : List Match) : Type 0 where
  pub plan : new.plan ≡ old.plan
  pub bound : new.bound ≡ old.bound
  pub events : new.machine.events ≡ old.machine.events
  pub ended : new.machine.ended ≡ old.machine.ended
  pub fed_are : fed old.journal ≡ old.machine.events → fed new.journal ≡ new.machine.events
  pub emitted : new.machine.emitted ≡ old.machine.emitted ++ matches

-- so it did, whatever it emitted
abbrev pub IsAdvanced : Running → Running → Type 0
IsAdvanced old new = (matches : List Match) × Advanced old new matches

-- so it did, and of the matches that it emitted this is so
abbrev pub AdvancedWith : Running → Running → (List Match → Type 0) → Type 0
AdvancedWith old new fact = (matches : List Match) × Advanced old new matches × fact matches

-- The core worked, and was not fed. Windows that are finished stay so.
pub record WorkedOn (old new : Running) : Type 0 where
  pub on : WentOn old new
  pub events : new.machine.events ≡ old.machine.events
  pub ended : new.machine.ended ≡ old.machine.ended
  pub finished : old.machine.finished ≤ new.machine.finished

-- the matches that a turn emits
abbrev pub given_out : Turn → List Match
given_out t.Idle = []
given_out t.Worked = []
given_out (t.Finished emitted) = emitted.matches.items

-- A core that stands alone may be fed, and work: no ticket is out, no version was made below another one, and no lease asked for more
-- events than any may.
pub record IsAlone (c : Running) : Type 0 where
  pub none_out : c.machine.tickets ≡ []
  pub alone : MakesNoChild c.journal
  pub asked : AsksAtMost batch_limit c.journal

-- how a core that stands alone came to where it stands
pub record CameAlone (c : Running) : Type 0 where
  pub alone : MakesNoChild c.journal
  pub asked : AsksAtMost batch_limit c.journal

pub alone_came : (c : Running) → IsAlone c → CameAlone c
alone_came c is = record { alone = is.alone; asked = is.asked }

-- every closed window is finished
abbrev pub AllFinished : Running → Type 0
AllFinished c = c.machine.finished ≡ closed c.plan c.machine.events c.machine.ended

-- The ticket of a piece is the only one that is out, and the piece's job is what was lent under it.
pub record IsOutAlone (c : Running) (p : Pieced) : Type 0 where
  pub ticket : Ticket
  pub alone : c.machine.tickets ≡ ticket ∷ []
  pub carried : CanComeHome c p

-- A turn: no ticket is out behind it, and its matches are emitted; it is idle only where every closed window is finished.
pub record Turned (old new : Running) (turn : Turn) : Type 0 where
  pub on : WorkedOn old new
  pub none_out : new.machine.tickets ≡ []
  pub emitted : new.machine.emitted ≡ old.machine.emitted ++ given_out turn
  pub idle : turn ≡ t.Idle → AllFinished new

-- A turn for which there was no memory: nothing was emitted.
pub record CutOff (old new : Running) : Type 0 where
  pub on : WorkedOn old new
  pub emitted : new.machine.emitted ≡ old.machine.emitted

-- The core worked until nothing was left to do, and emitted these matches: no ticket is out, and every closed window is finished.
pub record WorkedOff (old new : Running) (matches : List Match) : Type 0 where
  pub on : WorkedOn old new
  pub emitted : new.machine.emitted ≡ old.machine.emitted ++ matches
  pub none_out : new.machine.tickets ≡ []
  pub all : AllFinished new

-- the core worked until there was no memory
pub record WorkedShort (old new : Running) : Type 0 where
  pub on : WorkedOn old new
  pub matches : List Match
  pub emitted : new.machine.emitted ≡ old.machine.emitted ++ matches
