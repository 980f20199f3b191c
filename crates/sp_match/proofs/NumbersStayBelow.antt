-- The numbers of runs and of their events stay below the number of the next event.
use Rattle.std.proofs.Common.{ℕ, ◌+◌, ◌<◌, Bool, true, false, cond, not, List, [], ◌∷◌, ◌++◌, Option, Some, None, arith}
use Rattle.std.specs.List.{All, fold}
use Rattle.std.proofs.lemmas.List.Elements.{All-nil, All-cons, All-head, All-tail, All-push, All-filter, All-weaker}
use Rattle.sp_base.specs.Numbers.{is_among}
use Rattle.sp_plan.specs.declared.plan.Plan.{Plan}
use Rattle.sp_plan.specs.Windows.{Numbered}
use Rattle.sp_plan.specs.Runs.{Pair, Started, Handling, used, holds_one, is_complete, departs, takes, completed, kept_with, grown, offered, handle_run, started_with, may_start}
use Rattle.sp_match.specs.public.Laws.{Below, NumbersStayBelow}

-- the number of a pair is below n
abbrev IsLow : ℕ → Pair → Type 0
IsLow n pair = pair.number < n

-- and those of all pairs of a run
abbrev IsLowRun : ℕ → Started → Type 0
IsLowRun n run = All (IsLow n) run.1

module _ (q : Plan) (x : Numbered) (n : ℕ) (below : x.0 < n) where
  push : (h : Handling) (run : Started) → All (IsLowRun n) h.kept → IsLowRun n run → All (IsLowRun n) (kept_with h run).kept
  push h run low here = All-push (IsLowRun n) h.kept run low here

  grow : (h : Handling) (run : Started) → All (IsLowRun n) h.kept → IsLowRun n run → All (IsLowRun n) (grown q h run).kept
  grow h run low here = one (is_complete q run.1)
    where
      one : (b : Bool) → All (IsLowRun n) (cond b (completed q h run) (kept_with h run)).kept
      one true = All-filter (λ other. not (holds_one (used q run.1) other.1)) (IsLowRun n) h.kept low
      one false = push h run low here

  offer : (h : Handling) (run : Started) (o : Option ℕ) → All (IsLowRun n) h.kept → IsLowRun n run → All (IsLowRun n) (offered q x h run o).kept
  offer h run (Some name) low here =
      let pair : Pair = record { name = name; number = x.0; event = x.1 } in
      grow h (run.0, run.1 ++ pair ∷ []) low (All-push (IsLow n) run.1 pair here below)
  offer h run None low here = one (departs q run.1 x.1)
    where
      one : (b : Bool) → All (IsLowRun n) (cond b h (kept_with h run)).kept
      one true = low
      one false = push h run low here

  turn : (h : Handling) (run : Started) → All (IsLowRun n) h.kept → IsLowRun n run → All (IsLowRun n) (handle_run q x h run).kept
  turn h run low here = one (holds_one h.taken run.1) (is_among h.taken x.0)
    where
      one : (b c : Bool) → All (IsLowRun n) (cond b h (cond c (kept_with h run) (offered q x h run (takes q run.1 x.1)))).kept
      one true c = low
      one false true = push h run low here
      one false false = offer h run (takes q run.1 x.1) low here

  turns : (runs : List Started) (h : Handling) → All (IsLowRun n) h.kept → All (IsLowRun n) runs → All (IsLowRun n) (fold (handle_run q x) h runs).kept
  turns [] h low rest = low
  turns (run ∷ runs) h low rest = turns runs (handle_run q x h run) (turn h run low (All-head (IsLowRun n) run runs rest)) (All-tail (IsLowRun n) run runs rest)

  start : (h : Handling) (count : ℕ) (o : Option ℕ) → All (IsLowRun n) h.kept → count + 1 < n → Below n (started_with q x h count o)
  start h count None low few = record { events = low; started = omega arith }
  start h count (Some name) low few =
      let pair : Pair = record { name = name; number = x.0; event = x.1 } in
      record { events = grow h (count + 1, pair ∷ []) low (All-cons (IsLow n) pair [] below (All-nil (IsLow n))); started = few }

-- An event starts at most one run, and no run holds a number past the event's.
pub numbers_stay_below : NumbersStayBelow
numbers_stay_below q s x below =
    let n : ℕ = x.0 + 1 in
    let here : x.0 < n = omega arith in
    let few : s.started + 1 < n = let before = below.started in omega arith in
    let low : All (IsLowRun n) s.open_runs =
    All-weaker (IsLowRun x.0) (IsLowRun n) (λ run all. All-weaker (IsLow x.0) (IsLow n) (λ pair less. omega arith) run.1 all) s.open_runs below.events in
    let first : Handling = record { kept = []; matched = s.matched; taken = [] } in
    let h : Handling = fold (handle_run q x) first s.open_runs in
    start q x n here h s.started (cond (may_start q.select q s h x) (takes q [] x.1) None) (turns q x n here s.open_runs first (All-nil (IsLowRun n)) low) few
