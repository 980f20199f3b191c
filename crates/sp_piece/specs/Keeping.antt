-- What a piece keeps between two steps.
use Rattle.std.specs.Prelude.{◌≡◌, ◌⊎◌, ℕ, ◌+◌, ◌<◌, ◌≤◌, Bool, true, false, List, [], ◌∷◌, ◌++◌, Option, Some, None, length, map, if◌then◌else◌}
use Rattle.sp_plan.specs.Windows.{Numbered}
use Rattle.sp_plan.specs.Runs.{State, handle}
use Rattle.sp_match.specs.declared.known.Known.{Known}
use Rattle.sp_match.specs.public.Known.{IsKnown}
use Rattle.sp_match.specs.public.Laws.{Below}
use Rattle.sp_match.specs.public.Matching.{IsAfter, Matching, Stands, TellsEvent, TellsWanted, runs_of, wanted_as_before}
use Rattle.sp_match.specs.declared.moves.Moves.{Moves}
use Rattle.sp_piece.specs.declared.job.Job.{Job}
use Rattle.sp_piece.specs.Reading.{Account, account, completing, joined, seen_moves, skips}
use Rattle.sp_piece.specs.Pieced.{Pieced, LedTo, Tells, loan}

-- the matcher that has read: the one of the job until there is another
abbrev pub current : Option Matching → Matching → Matching
current None before = before
current (Some m) before = m

-- It has read no more than was lent, its matcher stands for what that led to, its moves tell of it, and it can handle the next event.
pub record IsKept (p : Pieced) (now : Option Matching) (list : List Moves) : Type 0 where
  pub within : p.read ≤ length p.job.events
  pub led : LedTo p (current now p.job.before)
  pub tells : Tells p list
  pub below : Below (p.job.first + p.read) (runs_of (current now p.job.before))
  pub last : p.closed ≡ true → (p.read ≡ length p.job.events) × (p.job.closes ≡ true)

-- Both lists of moves tell the same, one after another.
abbrev pub TellsSame : List Moves → List Moves → Type 0
TellsSame list more = joined (map seen_moves list) ≡ joined (map seen_moves more)

-- The second list of moves tells what the first one tells, and this behind it.
abbrev pub TellsOn : Account → List Moves → List Moves → Type 0
TellsOn a list more = joined (map seen_moves more) ≡ joined (map seen_moves list ++ a ∷ [])

-- One list came behind another one, or both are as they were.
abbrev pub IsJoined : {A : Type 0} → List A → List A → List A → List A → Type 0
IsJoined list more joint left = ((joint ≡ list ++ more) × (left ≡ [])) ⊎ ((joint ≡ list) × (left ≡ more))

-- Of two lists of moves the second one tells nothing.
pub record IsSettled (entries : List Moves) : Type 0 where
  pub told : Moves
  pub room : Moves
  pub are : entries ≡ told ∷ room ∷ []
  pub list : room.list.items ≡ []
  pub wanted : room.wanted ≡ []

-- what is told that the open runs want where an event changes nothing
abbrev pub wanted_where : Bool → Matching → List (ℕ × ℕ)
wanted_where so m = if so then wanted_as_before m else []

-- What the handling of an event made of a matcher and a list of moves: the completions by it came behind the others, with what the runs
-- wanted only where that is so.
pub record HandledOn (so : Bool) (x : Numbered) (m n : Matching) (list more : List Moves) : Type 0 where
  pub plan : n.plan ≡ m.plan
  pub stands : (s : State) → Stands m s → Stands n (handle m.plan s x)
  pub told : (s : State) → Stands m s → TellsOn (completing so (account m.plan s x)) list more
  pub below : Below (x.0 + 1) (runs_of n)

-- What the closing made of a matcher. No run completes by it.
pub record ClosedOff (m n : Matching) : Type 0 where
  pub plan : n.plan ≡ m.plan
  pub none : n.open_runs ≡ []
  pub count : n.started ≡ m.started

-- a piece that has read so many of the lent events, and was neither closed nor given up
abbrev pub going : Job → ℕ → Pieced
going job read = record { job = job; read = read; closed = false; short = false }

-- More of the lent events were read, and else nothing changed.
abbrev pub HasReadOn : Pieced → Pieced → Type 0
HasReadOn p later = (n : ℕ) × (p.read ≤ n) × (n ≤ length p.job.events) × (later ≡ record p { read = n })

-- none of the lent events from one place on and in front of another one is to be skipped
abbrev pub NoneSkipped : Job → ℕ → ℕ → Type 0
NoneSkipped job from end = (i : ℕ) → from ≤ i → i < end → skips (loan job) i ≡ false

-- The event of a number was read, or was not lent.
abbrev pub IsPast : Job → ℕ → ℕ → Type 0
IsPast job read number = (number < job.first + read) ⊎ (job.first + length job.events ≤ number)

-- An event of which this is known changes nothing for a matcher, tells nothing, and leaves what the runs want.
pub record PassesBy (m : Matching) (k : Known) : Type 0 where
  pub stands : (x : Numbered) → IsKnown m.plan x.1 k → IsAfter x m m
  pub told : (x : Numbered) → IsKnown m.plan x.1 k → TellsEvent x m []
  pub wanted : (x : Numbered) → IsKnown m.plan x.1 k → TellsWanted x m (wanted_as_before m)
