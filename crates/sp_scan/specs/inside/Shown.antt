-- How far the handling of an event has come, and what runs there are, as the definitions have it: run numbers aside.
use Rattle.std.specs.Prelude.{◌≡◌, ℕ, ◌+◌, ◌<◌, List, [], ◌∷◌, ◌++◌, None, drop, length, map, if◌then◌else◌}
use Rattle.std.specs.List.{All, fold}
use Rattle.sp_base.specs.Numbers.{is_among}
use Rattle.sp_plan.specs.declared.plan.Plan.{Plan}
use Rattle.sp_plan.specs.Windows.{Numbered}
use Rattle.sp_plan.specs.Runs.{Handling, Run, Started, State, handle_run, may_start, started_with, takes}
use Rattle.sp_scan.specs.declared.found.Found.{Found}
use Rattle.sp_scan.specs.declared.offer.Offer.{Offer}
use Rattle.sp_scan.specs.declared.run.Run as own
use Rattle.sp_scan.specs.declared.runs.Runs.{Runs}
use Rattle.sp_scan.specs.declared.turns.Turns.{Turns}
use Rattle.sp_scan.specs.Scanning.{found_of}
use Rattle.sp_scan.specs.inside.Ahead.{IsReady}

-- runs without their numbers
abbrev pub pairs_of : List Started → List Run
pairs_of runs = map (λ run. run.1) runs

-- the pairs of runs
abbrev pub all_pairs : List own.Run → List Run
all_pairs runs = map (λ run. run.pairs) runs

-- what runs that matched come to
abbrev pub all_found : Plan → List Started → List Found
all_found q runs = map (λ run. found_of q run.1) runs

-- The runs kept are those of the handling, ready for the event of the next number; so are those that matched, and the numbers used.
pub record ShowsTurns (q : Plan) (next : ℕ) (h : Handling) (kept : List own.Run) (found : List Found) (taken : List ℕ) : Type 0 where
  pub kept_are : all_pairs kept ≡ pairs_of h.kept
  pub ready : All (IsReady q next) kept
  pub found_are : found ≡ all_found q h.matched
  pub taken_are : (n : ℕ) → is_among taken n ≡ is_among h.taken n

-- The open runs are those of the state, ready for the event of the next number, and so are those that matched.
pub record ShowsRuns (q : Plan) (next : ℕ) (s : State) (runs : Runs) : Type 0 where
  pub open_are : all_pairs runs.open_runs.items ≡ pairs_of s.open_runs
  pub ready : All (IsReady q next) runs.open_runs.items
  pub found_are : runs.found.items ≡ all_found q s.matched

-- A run stands at the place, and those from there on are ready for the event.
pub record AreLeft (o : Offer) (runs : List own.Run) (at : ℕ) : Type 0 where
  pub within : at < length runs
  pub ready : All (IsReady o.plan.now o.number) (drop at runs)

-- The run at a place among others has bound the event to the name, and is ready for the event of the next number.
abbrev pub IsGrown : Offer → List own.Run → List own.Run → ℕ → ℕ → Type 0
IsGrown o old new at name =
    (kept rest : List own.Run) (run : own.Run) → old ≡ kept ++ run ∷ rest → length kept ≡ at
    → (grown : own.Run) × (new ≡ kept ++ grown ∷ rest) × (grown.pairs ≡ run.pairs ++ (record { name = name; number = o.number; event = o.event.now }) ∷ []) × IsReady o.plan.now (o.number + 1) grown

-- When a run has had its turn, which stood behind those kept, these are kept, as a change of the handling says; the others stay behind them.
pub record IsTurned (q : Plan) (next : ℕ) (old new : Turns) (left : ℕ) (kept rest : List own.Run) (run : own.Run) (change : Handling → Started → Handling) : Type 0 where
  pub still : List own.Run
  pub items_are : new.runs.items ≡ still ++ rest
  pub left_is : length still ≡ left
  pub shown : (h : Handling) (n : ℕ) → ShowsTurns q next h kept old.found.items old.taken.list → ShowsTurns q next (change h (n, run.pairs)) still new.found.items new.taken.list

-- The run at a place has had its turn, and so many runs are kept then.
abbrev pub IsTurn : Plan → ℕ → Turns → Turns → ℕ → ℕ → (Handling → Started → Handling) → Type 0
IsTurn q next old new at left change =
    (kept rest : List own.Run) (run : own.Run) → old.runs.items ≡ kept ++ run ∷ rest → length kept ≡ at → IsTurned q next old new left kept rest run change

-- The same where that run is ready for the event of the next number.
abbrev pub IsTurnOfReady : Plan → ℕ → Turns → Turns → ℕ → ℕ → (Handling → Started → Handling) → Type 0
IsTurnOfReady q next old new at left change =
    (kept rest : List own.Run) (run : own.Run) → old.runs.items ≡ kept ++ run ∷ rest → length kept ≡ at → IsReady q next run → IsTurned q next old new left kept rest run change

-- the handling of an event when the open runs have been offered it
abbrev pub after_turns : Plan → Numbered → State → Handling
after_turns q x s = fold (handle_run q x) (record { kept = []; matched = s.matched; taken = [] }) s.open_runs

-- the state after the event then, which may start a run
abbrev pub after_start : Plan → Numbered → State → Handling → State
after_start q x s h = started_with q x h s.started (if may_start q.select q s h x then takes q [] x.1 else None)

-- the runs and those that matched are those of the state after the event
abbrev pub ShowsAfter : Plan → ℕ → State → Turns → Type 0
ShowsAfter q next s turns = ShowsRuns q next s (record { open_runs = turns.runs; found = turns.found })
