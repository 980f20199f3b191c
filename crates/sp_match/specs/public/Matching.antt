-- What a matcher is to its callers.
use Rattle.std.specs.Prelude.{◌≡◌, ℕ, List, [], map, slice_index_or}
use Rattle.sp_plan.specs.declared.plan.Plan.{Plan}
use Rattle.sp_plan.specs.Same.{SamePlan}
use Rattle.sp_plan.specs.Windows.{Numbered}
use Rattle.sp_plan.specs.Runs.{Started, State, handle, used}
use Rattle.sp_plan.specs.Moves.{Told, closing, left, moves, still_wanted, told}

-- the plan, the open runs with their events, and how many runs have started
pub record Matching : Type 0 where
  pub plan : Plan
  pub open_runs : List Started
  pub started : ℕ

-- The matcher stands for these runs: it has the open ones, and the count of those that started. Which runs matched it doesn't keep.
pub record Stands (m : Matching) (s : State) : Type 0 where
  pub open_is : m.open_runs ≡ s.open_runs
  pub started_is : m.started ≡ s.started

-- The matcher n stands for the runs that the event leads to, whatever runs m stands for.
abbrev pub IsAfter : Numbered → Matching → Matching → Type 0
IsAfter x m n = (s : State) → Stands m s → Stands n (handle m.plan s x)

-- The moves told are those of the event, whatever runs the matcher stands for.
abbrev pub TellsEvent : Numbered → Matching → List Told → Type 0
TellsEvent x m ts = (s : State) → Stands m s → ts ≡ told m.plan s (moves m.plan s x)

-- For each run that was open and isn't abandoned it is said how many events it wanted before the event, and wants after it.
abbrev pub TellsWanted : Numbered → Matching → List (ℕ × ℕ) → Type 0
TellsWanted x m ws = (s : State) → Stands m s → ws ≡ still_wanted m.plan s (moves m.plan s x)

-- for each open run how many events it wants at least, twice: before an event that changes nothing, and after it
abbrev pub wanted_as_before : Matching → List (ℕ × ℕ)
wanted_as_before m = map (λ run. (left m.plan run.1, left m.plan run.1)) m.open_runs

-- The moves told are those of the closing, whatever runs the matcher stands for.
abbrev pub TellsClosing : Matching → List Told → Type 0
TellsClosing m ts = (s : State) → Stands m s → ts ≡ told m.plan s (closing s)

-- Both have the same runs.
abbrev pub SameRuns : Matching → Matching → Type 0
SameRuns m n = (m.open_runs ≡ n.open_runs) × (m.started ≡ n.started)

-- how many events the run at a place wants at least
abbrev pub left_at : Matching → ℕ → ℕ
left_at m place = left m.plan (slice_index_or m.open_runs place (0, [])).1

-- a run as it is shown: its number, names with the numbers of their events, and the numbers that its completion would use
abbrev pub Shown : Type 0
Shown = ℕ × List (ℕ × ℕ) × List ℕ

-- an open run as it is shown
abbrev pub shown : Plan → Started → Shown
shown q run = (run.0, map (λ pair. (pair.name, pair.number)) run.1, used q run.1)

-- its runs as a state in which none has matched
abbrev pub runs_of : Matching → State
runs_of m = record { open_runs = m.open_runs; matched = []; started = m.started }

-- The same plan, but for where its parts lie in memory, and the same runs.
pub record SameMatching (m n : Matching) : Type 0 where
  pub plan : SamePlan m.plan n.plan
  pub open_runs : m.open_runs ≡ n.open_runs
  pub started : m.started ≡ n.started
