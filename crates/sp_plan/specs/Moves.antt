-- What the handling of an event does to the runs, move by move, in the order in which it happens.
use Rattle.std.specs.Prelude.{ℕ, ◌+◌, Bool, false, not, List, [], ◌∷◌, ◌++◌, length, Option, Some, None, ◌==◌, filter, map, if◌then◌else◌}
use Rattle.std.specs.List.{list_any, flat_map, fold}
use Rattle.sp_base.specs.Numbers.{is_among}
use Rattle.sp_plan.specs.declared.plan.Plan.{Plan}
use Rattle.sp_plan.specs.Windows.{Numbered}
use Rattle.sp_plan.specs.Runs.{Pair, Run, Started, State, Handling, bindings, departs, holds_one, is_complete, may_start, takes, unbound, used}

-- A run starts, with the next number and no pair; a run binds an event; a run completes; a run is abandoned. Runs are named by their numbers.
pub data Move : Type 0 where
  Opened : Move
  Grown : (run : ℕ) → (pair : Pair) → Move
  Completed : (run : ℕ) → Move
  Abandoned : (run : ℕ) → Move

-- whether a run has the number
abbrev pub is_run : ℕ → Started → Bool
is_run r run = run.0 == r

-- the runs but the one of that number
abbrev pub without_run : ℕ → List Started → List Started
without_run r runs = filter (λ run. not (is_run r run)) runs

-- a run, with one pair more where it is the one of that number
abbrev pub with_pair : ℕ → Pair → Started → Started
with_pair r pair run = if is_run r run then (run.0, run.1 ++ pair ∷ []) else run

-- what one move does to the runs
abbrev pub apply : State → Move → State
apply s Opened = record { open_runs = s.open_runs ++ (s.started + 1, []) ∷ []; matched = s.matched; started = s.started + 1 }
apply s (Grown r pair) = record { open_runs = map (with_pair r pair) s.open_runs; matched = s.matched; started = s.started }
apply s (Completed r) = record { open_runs = without_run r s.open_runs; matched = s.matched ++ filter (is_run r) s.open_runs; started = s.started }
apply s (Abandoned r) = record { open_runs = without_run r s.open_runs; matched = s.matched; started = s.started }

-- what moves do, one after another
abbrev pub apply_all : State → List Move → State
apply_all s ms = fold apply s ms

-- how far the handling of an event has come: the moves made, the runs that they led to, and the numbers used in it
pub record Acting : Type 0 where
  pub moves : List Move
  pub now : State
  pub taken : List ℕ

-- these moves more, which used these numbers
abbrev pub acting_on : Acting → List Move → List ℕ → Acting
acting_on a ms numbers = record { moves = a.moves ++ ms; now = apply_all a.now ms; taken = a.taken ++ numbers }

-- a run leaves
abbrev pub abandoned : Started → Move
abandoned run = Abandoned run.0

-- a run completes, and each other open run that holds a number which it used is abandoned, by run number
abbrev pub completing : Plan → List Started → Started → List Move
completing q runs run = Completed run.0 ∷ map abandoned (filter (λ other. holds_one (used q run.1) other.1) (without_run run.0 runs))

-- the moves by which a run takes a pair, among these open runs: it may be complete then
abbrev pub growing : Plan → List Started → Started → Pair → List Move
growing q runs run pair =
    let grown = run.1 ++ pair ∷ [] in
    Grown run.0 pair ∷ (if is_complete q grown then completing q runs (run.0, grown) else [])

-- the numbers that a run uses, where it is complete
abbrev pub used_if_complete : Plan → Run → List ℕ
used_if_complete q r = if is_complete q r then used q r else []

-- what a run does with an event, by the name under which it takes it
abbrev pub acted : Plan → Numbered → Acting → Started → Option ℕ → Acting
acted q x a run (Some name) =
    let pair : Pair = record { name = name; number = x.0; event = x.1 } in
    acting_on a (growing q a.now.open_runs run pair) (used_if_complete q (run.1 ++ pair ∷ []))
acted q x a run None = if departs q run.1 x.1 then acting_on a (abandoned run ∷ []) [] else a

-- one of the runs that were open when the event came: it may have been abandoned by now, and is offered no event that is used
abbrev pub act_run : Plan → Numbered → Acting → Started → Acting
act_run q x a run =
    if holds_one a.taken run.1 then a
    else if is_among a.taken x.0 then a
    else acted q x a run (takes q run.1 x.1)

-- the new run, where one starts
abbrev pub act_start : Plan → Numbered → Acting → Option ℕ → Acting
act_start q x a None = a
act_start q x a (Some name) =
    let pair : Pair = record { name = name; number = x.0; event = x.1 } in
    let opened = acting_on a (Opened ∷ []) [] in
    acting_on opened (growing q opened.now.open_runs (a.now.started + 1, []) pair) (used_if_complete q (pair ∷ []))

-- the handling as the rules of starting see it
abbrev pub handling_of : Acting → Handling
handling_of a = record { kept = a.now.open_runs; matched = a.now.matched; taken = a.taken }

-- the handling of one visible event: the open runs are offered it, the oldest first, and then it may start one
abbrev pub act : Plan → State → Numbered → Acting
act q s x =
    let a = fold (act_run q x) (record { moves = []; now = s; taken = [] }) s.open_runs in
    act_start q x a (if may_start q.select q s (handling_of a) x then takes q [] x.1 else None)

-- the moves of one visible event
abbrev pub moves : Plan → State → Numbered → List Move
moves q s x = (act q s x).moves

-- the moves of the closing: all open runs are abandoned, by run number
abbrev pub closing : State → List Move
closing s = map abandoned s.open_runs

-- A move as it is told: runs and events by their numbers; of a run that completes, the events of each name and those that it uses.
pub data Told : Type 0 where
  OpenedTold : (run : ℕ) → Told
  GrownTold : (run : ℕ) → (number : ℕ) → Told
  CompletedTold : (run : ℕ) → (bound : List (ℕ × List ℕ)) → (used : List ℕ) → Told
  AbandonedTold : (run : ℕ) → Told

-- the pairs of the run of that number
abbrev pub pairs_of : List Started → ℕ → Run
pairs_of runs r = flat_map (λ run. run.1) (filter (is_run r) runs)

-- one move, told of the runs before it
abbrev pub tell : Plan → State → Move → Told
tell q s Opened = OpenedTold (s.started + 1)
tell q s (Grown r pair) = GrownTold r pair.number
tell q s (Completed r) = CompletedTold r (bindings q (pairs_of s.open_runs r)) (used q (pairs_of s.open_runs r))
tell q s (Abandoned r) = AbandonedTold r

-- moves, each told of the runs before it
abbrev pub told : Plan → State → List Move → List Told
told q s [] = []
told q s (m ∷ ms) = tell q s m ∷ told q (apply s m) ms

-- how many events a run still wants at least: one for each name that it has still to bind
abbrev pub left : Plan → Run → ℕ
left q r = length (flat_map (λ element. unbound r (Some element)) q.elements)

-- whether a move abandons the run of that number
abbrev pub abandons : ℕ → Move → Bool
abandons r (Abandoned n) = n == r
abandons r Opened = false
abandons r (Grown n pair) = false
abandons r (Completed n) = false

-- the pair that a move gives the run of that number
abbrev pub pair_given : ℕ → Move → List Pair
pair_given r (Grown n pair) = if n == r then pair ∷ [] else []
pair_given r Opened = []
pair_given r (Completed n) = []
pair_given r (Abandoned n) = []

-- for each run that was open before these moves and is not abandoned by them: how many events it wanted before, and after
abbrev pub still_wanted : Plan → State → List Move → List (ℕ × ℕ)
still_wanted q s ms =
    map (λ run. (left q run.1, left q (run.1 ++ flat_map (pair_given run.0) ms))) (filter (λ run. not (list_any (abandons run.0) ms)) s.open_runs)
