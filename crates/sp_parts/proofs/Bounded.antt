-- What is true of the numbers of all events read is true of those that runs bind and use.
use Rattle.std.proofs.Common.{ℕ, ◌+◌, List, [], ◌∷◌, ◌++◌, Option, Some, None}
use Rattle.std.specs.Prelude.{◌==◌, filter, slice_get, not, if◌then◌else◌}
use Rattle.std.specs.List.{All, flat_map, fold}
use Rattle.std.proofs.lemmas.Bool.{cond_both}
use Rattle.std.proofs.lemmas.List.Elements.{All-nil, All-cons, All-head, All-tail, All-push, All-append, All-map, All-filter}
use Rattle.sp_base.specs.Numbers.{is_among}
use Rattle.sp_plan.specs.declared.plan.Plan.{Plan}
use Rattle.sp_plan.specs.Windows.{Numbered}
use Rattle.sp_plan.specs.Runs.{Pair, Run, Started, State, Handling, numbers_under, is_complete, is_consumed, takes, used, holds_one, fresh, completed, kept_with, grown, departs, offered, handle_run, may_start, started_with, handle, state, matched_runs}

-- the numbers that a run binds
abbrev pub Binds : (ℕ → Type 0) → Run → Type 0
Binds P r = All (λ pair. P pair.number) r

-- so of all runs
abbrev pub AllBind : (ℕ → Type 0) → List Started → Type 0
AllBind P runs = All (λ run. Binds P run.1) runs

record HandlingBinds (P : ℕ → Type 0) (h : Handling) : Type 0 where
  kept : AllBind P h.kept
  matched : AllBind P h.matched

record StateBinds (P : ℕ → Type 0) (s : State) : Type 0 where
  open_runs : AllBind P s.open_runs
  matched : AllBind P s.matched

module _ (P : ℕ → Type 0) (q : Plan) where
  completed_binds : (h : Handling) (run : Started) → HandlingBinds P h → Binds P run.1 → HandlingBinds P (completed q h run)
  completed_binds h run own its = record {
    kept = All-filter (λ other. not (holds_one (used q run.1) other.1)) (λ run. Binds P run.1) h.kept own.kept;
    matched = All-push (λ run. Binds P run.1) h.matched run own.matched its;
  }

  kept_binds : (h : Handling) (run : Started) → HandlingBinds P h → Binds P run.1 → HandlingBinds P (kept_with h run)
  kept_binds h run own its = record { kept = All-push (λ run. Binds P run.1) h.kept run own.kept its; matched = own.matched }

  grown_binds : (h : Handling) (run : Started) → HandlingBinds P h → Binds P run.1 → HandlingBinds P (grown q h run)
  grown_binds h run own its =
      cond_both (is_complete q run.1) (completed q h run) (kept_with h run) (HandlingBinds P) (λ _. completed_binds h run own its) (λ _. kept_binds h run own its)

  offered_binds : (x : Numbered) (h : Handling) (run : Started) (o : Option ℕ) → P x.0 → HandlingBinds P h → Binds P run.1 → HandlingBinds P (offered q x h run o)
  offered_binds x h run (Some name) at own its =
      let pair : Pair = record { name = name; number = x.0; event = x.1 } in
      grown_binds h (run.0, run.1 ++ pair ∷ []) own (All-push (λ pair. P pair.number) run.1 pair its at)
  offered_binds x h run None at own its = cond_both (departs q run.1 x.1) h (kept_with h run) (HandlingBinds P) (λ _. own) (λ _. kept_binds h run own its)

  handle_run_binds : (x : Numbered) (h : Handling) (run : Started) → P x.0 → HandlingBinds P h → Binds P run.1 → HandlingBinds P (handle_run q x h run)
  handle_run_binds x h run at own its =
      let given : Handling = offered q x h run (takes q run.1 x.1) in
      let rest : Handling = if is_among h.taken x.0 then kept_with h run else given in
      cond_both (holds_one h.taken run.1) h rest (HandlingBinds P) (λ _. own)
      (λ _. cond_both (is_among h.taken x.0) (kept_with h run) given (HandlingBinds P) (λ _. kept_binds h run own its) (λ _. offered_binds x h run (takes q run.1 x.1) at own its))

  runs_bind : (x : Numbered) (h : Handling) (runs : List Started) → P x.0 → HandlingBinds P h → AllBind P runs → HandlingBinds P (fold (handle_run q x) h runs)
  runs_bind x h [] at own all = own
  runs_bind x h (run ∷ runs) at own all =
      runs_bind x (handle_run q x h run) runs at (handle_run_binds x h run at own (All-head (λ run. Binds P run.1) run runs all)) (All-tail (λ run. Binds P run.1) run runs all)

  started_binds : (x : Numbered) (h : Handling) (count : ℕ) (o : Option ℕ) → P x.0 → HandlingBinds P h → StateBinds P (started_with q x h count o)
  started_binds x h count None at own = record { open_runs = own.kept; matched = own.matched }
  started_binds x h count (Some name) at own =
      let pair : Pair = record { name = name; number = x.0; event = x.1 } in
      let after = grown_binds h (count + 1, pair ∷ []) own (All-cons (λ pair. P pair.number) pair [] at (All-nil (λ pair. P pair.number))) in
      record { open_runs = after.kept; matched = after.matched }

  handle_binds : (s : State) (x : Numbered) → P x.0 → StateBinds P s → StateBinds P (handle q s x)
  handle_binds s x at own =
      let before : Handling = record { kept = []; matched = s.matched; taken = [] } in
      let h : Handling = fold (handle_run q x) before s.open_runs in
      started_binds x h s.started (if may_start q.select q s h x then takes q [] x.1 else None) at
      (runs_bind x before s.open_runs at (record { kept = All-nil (λ run. Binds P run.1); matched = own.matched }) own.open_runs)

  fold_binds : (s : State) (xs : List Numbered) → All (λ x. P x.0) xs → StateBinds P s → StateBinds P (fold (handle q) s xs)
  fold_binds s [] all own = own
  fold_binds s (x ∷ xs) all own = fold_binds (handle q s x) xs (All-tail (λ x. P x.0) x xs all) (handle_binds s x (All-head (λ x. P x.0) x xs all) own)

  -- what one run uses, and what it binds to a name
  pub run_uses : (r : Run) → Binds P r → All P (used q r)
  run_uses r all =
      All-map P (λ pair. pair.number) (filter (λ pair. is_consumed (slice_get q.names pair.name)) r)
      (All-filter (λ pair. is_consumed (slice_get q.names pair.name)) (λ pair. P pair.number) r all)

  pub under_name : (r : Run) (name : ℕ) → Binds P r → All P (numbers_under r name)
  under_name r name all = All-map P (λ pair. pair.number) (filter (λ pair. pair.name == name) r) (All-filter (λ pair. pair.name == name) (λ pair. P pair.number) r all)

  -- what runs use
  used_binds : (runs : List Run) → All (Binds P) runs → All P (flat_map (used q) runs)
  used_binds [] all = All-nil P
  used_binds (r ∷ runs) all =
      All-append P (used q r) (flat_map (used q) runs) (run_uses r (All-head (Binds P) r runs all)) (used_binds runs (All-tail (Binds P) r runs all))

  -- the numbers that the runs which matched bind are some of those of the events read
  pub matched_bind : (xs : List Numbered) → All (λ x. P x.0) xs → All (Binds P) (matched_runs (state q xs))
  matched_bind xs all =
      let own = fold_binds fresh xs all (record { open_runs = All-nil (λ run. Binds P run.1); matched = All-nil (λ run. Binds P run.1) }) in
      All-map (Binds P) (λ run. run.1) (state q xs).matched own.matched

  -- and so are those that they used
  pub matched_use : (xs : List Numbered) → All (λ x. P x.0) xs → All P (flat_map (used q) (matched_runs (state q xs)))
  matched_use xs all = used_binds (matched_runs (state q xs)) (matched_bind xs all)
