-- The open runs are offered an event one after another.
use Rattle.std.proofs.Common.{◌≡◌, ℕ, ◌+◌, ◌-◌, ◌<◌, ◌≤◌, List, [], ◌∷◌, ◌++◌, length, drop, refl, sym, ap, subst, ◌∙◌, length-append, arith}
use Rattle.std.specs.List.{All, fold}
use Rattle.std.proofs.lemmas.List.{append-nil}
use Rattle.std.proofs.lemmas.List.Elements.{All-nil, All-tail}
use Rattle.sp_base.specs.Numbers.{is_among}
use Rattle.sp_plan.specs.declared.plan.Plan.{Plan}
use Rattle.sp_plan.specs.Windows.{Numbered}
use Rattle.sp_plan.specs.Runs.{Handling, Run, Started, State, handle_run}
use Rattle.sp_scan.specs.declared.found.Found.{Found}
use Rattle.sp_scan.specs.declared.run.Run as own
use Rattle.sp_scan.specs.declared.runs.Runs.{Runs}
use Rattle.sp_scan.specs.declared.turns.Turns.{Turns}
use Rattle.sp_scan.specs.inside.Ahead.{IsReady}
use Rattle.sp_scan.specs.inside.Shown.{IsTurn, ShowsRuns, ShowsTurns, after_turns, all_pairs, pairs_of}
use Rattle.sp_scan.proofs.SplitLists.{rest_there}

-- Those kept show a handling from which the runs that are left lead to where all of them do.
pub record Goes (q : Plan) (x : Numbered) (s : State) (kept left : List own.Run) (found : List Found) (taken : List ℕ) : Type 0 where
  pub h : Handling
  pub rest : List Started
  pub rest_are : all_pairs left ≡ pairs_of rest
  pub leads : fold (handle_run q x) h rest ≡ after_turns q x s
  pub shown : ShowsTurns q (x.0 + 1) h kept found taken

goes_on : (q : Plan) (x : Numbered) (s : State) (run : own.Run) (kept still left : List own.Run) (found found' : List Found) (taken taken' : List ℕ) → Goes q x s kept (run ∷ left) found taken
    → ((h : Handling) (n : ℕ) → ShowsTurns q (x.0 + 1) h kept found taken → ShowsTurns q (x.0 + 1) (handle_run q x h (n, run.pairs)) still found' taken') → Goes q x s still left found' taken'
goes_on q x s run kept still left found found' taken taken' goes turn = one goes.rest goes.rest_are goes.leads
  where
    one : (rest : List Started) → run.pairs ∷ all_pairs left ≡ pairs_of rest → fold (handle_run q x) goes.h rest ≡ after_turns q x s → Goes q x s still left found' taken'
    one [] are leads = absurd (cc are)
    one (r ∷ rest) are leads =
        let first : run.pairs ≡ r.1 = cc in
        let others : all_pairs left ≡ pairs_of rest = cc in
        record {
          h = handle_run q x goes.h r;
          rest = rest;
          rest_are = others;
          leads = leads;
          shown = subst (λ (p : Run). ShowsTurns q (x.0 + 1) (handle_run q x goes.h (r.0, p)) still found' taken') first (turn goes.h r.0 goes.shown);
        }

goes_to : (q : Plan) (x : Numbered) (s : State) (kept : List own.Run) (found : List Found) (taken : List ℕ) → Goes q x s kept [] found taken → ShowsTurns q (x.0 + 1) (after_turns q x s) kept found taken
goes_to q x s kept found taken goes = one goes.rest goes.rest_are goes.leads
  where
    one : (rest : List Started) → [] ≡ pairs_of rest → fold (handle_run q x) goes.h rest ≡ after_turns q x s → ShowsTurns q (x.0 + 1) (after_turns q x s) kept found taken
    one [] are leads = subst (λ (h : Handling). ShowsTurns q (x.0 + 1) h kept found taken) leads goes.shown
    one (r ∷ rest) are leads = absurd (cc are)

-- So many runs in front are kept, and those behind them are still to have their turn.
pub record Round (q : Plan) (x : Numbered) (runs : Runs) (t : Turns) (at : ℕ) : Type 0 where
  pub kept : List own.Run
  pub left : List own.Run
  pub items_are : t.runs.items ≡ kept ++ left
  pub kept_is : length kept ≡ at
  pub ready : All (IsReady q x.0) left
  pub goes : (s : State) → ShowsRuns q x.0 s runs → Goes q x s kept left t.found.items t.taken.list

-- all are left
pub round_from : (q : Plan) (x : Numbered) (runs : Runs) (t : Turns) → All (IsReady q x.0) runs.open_runs.items → t.runs.items ≡ runs.open_runs.items → t.found.items ≡ runs.found.items → t.taken.list ≡ [] → Round q x runs t 0
round_from q x runs t ready all found none = record {
  kept = [];
  left = runs.open_runs.items;
  items_are = all;
  kept_is = refl;
  ready = ready;
  goes = λ s shown. record {
    h = record { kept = []; matched = s.matched; taken = [] };
    rest = s.open_runs;
    rest_are = shown.open_are;
    leads = refl;
    shown = record { kept_are = refl; ready = All-nil (IsReady q (x.0 + 1)); found_are = found ∙ shown.found_are; taken_are = λ i. ap (λ l. is_among l i) none };
  };
}

module _ (q : Plan) (x : Numbered) (runs : Runs) (t t' : Turns) (at next : ℕ) (round : Round q x runs t at) (within : at < length t.runs.items) (turn : IsTurn q (x.0 + 1) t t' at next (handle_run q x)) where
  -- one run's turn
  pub round_on : Round q x runs t' next
  round_on = one round.left round.items_are round.ready round.goes
    where
      one : (left : List own.Run) → t.runs.items ≡ round.kept ++ left → All (IsReady q x.0) left → ((s : State) → ShowsRuns q x.0 s runs → Goes q x s round.kept left t.found.items t.taken.list) → Round q x runs t' next
      one [] are ready goes = let size = (let none : List own.Run = [] in length-append round.kept none) in absurd (omega (arith, within, ap length are, size, round.kept_is))
      one (run ∷ left) are ready goes =
          let turned = turn round.kept left run are round.kept_is in
          record {
            kept = turned.still;
            left = left;
            items_are = turned.items_are;
            kept_is = turned.left_is;
            ready = All-tail (IsReady q x.0) run left ready;
            goes = λ s shown. goes_on q x s run round.kept turned.still left t.found.items t'.found.items t.taken.list t'.taken.list (goes s shown) turned.shown;
          }

  -- fewer are left
  pub round_shorter : length t'.runs.items - next < length t.runs.items - at
  round_shorter = one round.left round.items_are
    where
      one : (left : List own.Run) → t.runs.items ≡ round.kept ++ left → length t'.runs.items - next < length t.runs.items - at
      one [] are = let size = (let none : List own.Run = [] in length-append round.kept none) in absurd (omega (arith, within, ap length are, size, round.kept_is))
      one (run ∷ left) are =
          let turned = turn round.kept left run are round.kept_is in
          let before = length-append round.kept (run ∷ left) in
          let after = length-append turned.still left in
          omega (arith, ap length are, before, after, ap length turned.items_are, turned.left_is, round.kept_is)

-- those behind are ready
pub round_ready : (q : Plan) (x : Numbered) (runs : Runs) (t : Turns) (at : ℕ) → Round q x runs t at → All (IsReady q x.0) (drop at t.runs.items)
round_ready q x runs t at round = subst (All (IsReady q x.0)) (sym (rest_there t.runs.items round.kept round.left at round.items_are round.kept_is)) round.ready

-- none is left
pub round_done : (q : Plan) (x : Numbered) (runs : Runs) (t : Turns) (at : ℕ) → Round q x runs t at → length t.runs.items ≤ at → (s : State) → ShowsRuns q x.0 s runs → ShowsTurns q (x.0 + 1) (after_turns q x s) t.runs.items t.found.items t.taken.list
round_done q x runs t at round done s shown = one round.left round.items_are (round.goes s shown)
  where
    one : (left : List own.Run) → t.runs.items ≡ round.kept ++ left → Goes q x s round.kept left t.found.items t.taken.list → ShowsTurns q (x.0 + 1) (after_turns q x s) t.runs.items t.found.items t.taken.list
    one [] are goes = subst (λ (l : List own.Run). ShowsTurns q (x.0 + 1) (after_turns q x s) l t.found.items t.taken.list) (sym (are ∙ append-nil round.kept)) (goes_to q x s round.kept t.found.items t.taken.list goes)
    one (run ∷ left) are goes = let size = length-append round.kept (run ∷ left) in absurd (omega (arith, done, ap length are, size, round.kept_is))
