-- Runs whose events have numbers moved on by one amount: nothing else about them changes.
use Rattle.std.proofs.Common.{◌≡◌, ℕ, ◌+◌, Bool, not, ◌&&◌, ◌||◌, List, [], ◌∷◌, ◌++◌, map, Option, Some, None, refl, sym, ap, ◌∙◌, arith}
use Rattle.std.specs.Prelude.{filter, find, slice_get, nat_lt, is_none, ◌==◌, if◌then◌else◌}
use Rattle.std.specs.List.{list_any, list_all, last_or, flat_map, fold}
use Rattle.std.specs.Option.{option_map}
use Rattle.std.proofs.lemmas.Bool.Decides.{nat_tests}
use Rattle.std.proofs.lemmas.List.{map-append, length-map}
use Rattle.std.proofs.lemmas.List.Folds.{list_all-map}
use Rattle.sp_base.specs.Numbers.{is_among}
use Rattle.sp_plan.specs.declared.event.Event.{Event}
use Rattle.sp_plan.specs.declared.plan.Plan.{Plan}
use Rattle.sp_plan.specs.declared.plan.Name.{Name}
use Rattle.sp_plan.specs.declared.plan.Element.{Element}
use Rattle.sp_plan.specs.declared.plan.Select.{Select}
use Rattle.sp_plan.specs.declared.plan.Select.TheVariants.{First, Last, Each}
use Rattle.sp_plan.specs.Values.{holds}
use Rattle.sp_plan.specs.Windows.{Numbered}
use Rattle.sp_plan.specs.Runs.{Pair, Run, Started, State, Handling, binds, is_bound, is_filled, unbound, again, wanted, bound_events, fits_name, name_holds, takes, leading, behind, guards_behind, guards, is_complete, is_consumed, used, holds_one, numbers_under, bound_names, bindings, fresh, completed, kept_with, grown, leaves, departs, passed, offered, handle_run, no_runs, may_start, started_with, handle, state, matched_runs}
use Rattle.sp_parts.proofs.Lists.{map_map, any_map, filter_map_is, last_map, fold_changed, choice_of}

-- numbers moved on
abbrev pub up : ℕ → List ℕ → List ℕ
up a ns = map (λ n. n + a) ns

abbrev pub numbered_up : ℕ → Numbered → Numbered
numbered_up a x = (x.0 + a, x.1)

abbrev pub pair_up : ℕ → Pair → Pair
pair_up a pair = record { name = pair.name; number = pair.number + a; event = pair.event }

abbrev pub run_up : ℕ → Run → Run
run_up a r = map (pair_up a) r

abbrev pub started_up : ℕ → Started → Started
started_up a run = (run.0, run_up a run.1)

abbrev pub all_up : ℕ → List Started → List Started
all_up a runs = map (started_up a) runs

abbrev pub handling_up : ℕ → Handling → Handling
handling_up a h = record { kept = all_up a h.kept; matched = all_up a h.matched; taken = up a h.taken }

abbrev pub state_up : ℕ → State → State
state_up a s = record { open_runs = all_up a s.open_runs; matched = all_up a s.matched; started = s.started }

-- two numbers are one exactly where they are so when both are moved
same_number : (a m n : ℕ) → (m + a == n + a) ≡ (m == n)
same_number a m n = grind (arith, nat_tests)

-- a number is among others exactly where it is so when all are moved
pub among_up : (a : ℕ) (ns : List ℕ) (n : ℕ) → is_among (up a ns) (n + a) ≡ is_among ns n
among_up a ns n = any_map (λ m. m + a) (λ m. m == n + a) ns ∙ ap (λ (p : ℕ → Bool). list_any p ns) (λ i m. same_number a m n i)

module _ (q : Plan) (a : ℕ) where
  bound_up : (r : Run) (name : ℕ) → is_bound (run_up a r) name ≡ is_bound r name
  bound_up r name = any_map (pair_up a) (λ pair. pair.name == name) r

  filled_up : (r : Run) (element : Element) → is_filled (run_up a r) element ≡ is_filled r element
  filled_up r element = ap (λ (b : ℕ → Bool). list_all b (binds element)) (λ i name. bound_up r name i)

  unbound_up : (r : Run) (o : Option Element) → unbound (run_up a r) o ≡ unbound r o
  unbound_up r None = refl
  unbound_up r (Some element) = ap (λ (b : ℕ → Bool). filter (λ name. not (b name)) (binds element)) (λ i name. bound_up r name i)

  again_up : (elements : List Element) (o : Option Pair) → again elements (option_map (pair_up a) o) ≡ again elements o
  again_up elements None = refl
  again_up elements (Some pair) = refl

  wanted_up : (r : Run) → wanted q (run_up a r) ≡ wanted q r
  wanted_up r =
      ap (λ (o : Option Element). unbound (run_up a r) o ++ again q.elements (last_or None (run_up a r))) (λ i. find (λ element. not (filled_up r element i)) q.elements)
      ∙ ap (λ (l : List ℕ). l ++ again q.elements (last_or None (run_up a r))) (unbound_up r (find (λ element. not (is_filled r element)) q.elements))
      ∙ ap (λ (l : List ℕ). unbound r (find (λ element. not (is_filled r element)) q.elements) ++ l) (ap (again q.elements) (last_map (pair_up a) None r) ∙ again_up q.elements (last_or None r))

  events_up : (r : Run) → bound_events (run_up a r) ≡ bound_events r
  events_up r = map_map (pair_up a) (λ pair. (pair.name, pair.event)) r

  fits_up : (o : Option Name) (r : Run) (e : Event) → fits_name o (run_up a r) e ≡ fits_name o r e
  fits_up None r e = refl
  fits_up (Some name) r e = ap (holds name.pred e) (events_up r)

  name_up : (r : Run) (e : Event) (name : ℕ) → name_holds q (run_up a r) e name ≡ name_holds q r e name
  name_up r e name = fits_up (slice_get q.names name) r e

  takes_up : (r : Run) (e : Event) → takes q (run_up a r) e ≡ takes q r e
  takes_up r e = λ i. find (λ name. name_up r e name i) (wanted_up r i)

  complete_up : (r : Run) → is_complete q (run_up a r) ≡ is_complete q r
  complete_up r = λ i. list_all (λ element. filled_up r element i) q.elements

  pub used_up : (r : Run) → used q (run_up a r) ≡ up a (used q r)
  used_up r =
      let own = filter (λ pair. is_consumed (slice_get q.names pair.name)) r in
      ap (map (λ (pair : Pair). pair.number)) (filter_map_is (pair_up a) (λ pair. is_consumed (slice_get q.names pair.name)) r)
      ∙ map_map (pair_up a) (λ pair. pair.number) own ∙ sym (map_map (λ (pair : Pair). pair.number) (λ n. n + a) own)

  holds_one_up : (ns : List ℕ) (r : Run) → holds_one (up a ns) (run_up a r) ≡ holds_one ns r
  holds_one_up ns r = any_map (pair_up a) (λ pair. is_among (up a ns) pair.number) r ∙ ap (λ (p : Pair → Bool). list_any p r) (λ i pair. among_up a ns pair.number i)

  behind_up : (r : Run) (name : ℕ) (elements : List Element) → behind (run_up a r) name elements ≡ behind r name elements
  behind_up r name [] = refl
  behind_up r name (element ∷ elements) = λ i. if is_among (binds element) name then (if filled_up r element i then elements else []) else behind_up r name elements i

  guards_behind_up : (r : Run) (o : Option Pair) → guards_behind q.elements (run_up a r) (option_map (pair_up a) o) ≡ guards_behind q.elements r o
  guards_behind_up r None = refl
  guards_behind_up r (Some pair) = ap leading (behind_up r pair.name q.elements)

  guards_up : (r : Run) → guards q (run_up a r) ≡ guards q r
  guards_up r = ap (guards_behind q.elements (run_up a r)) (last_map (pair_up a) None r) ∙ guards_behind_up r (last_or None r)

  departs_up : (r : Run) (e : Event) → departs q (run_up a r) e ≡ departs q r e
  departs_up r e = λ i. leaves q.select q e || list_any (λ name. name_up r e name i) (guards_up r i)

  completed_up : (h : Handling) (run : Started) → completed q (handling_up a h) (started_up a run) ≡ handling_up a (completed q h run)
  completed_up h run =
      let kept = filter_map_is (started_up a) (λ other. not (holds_one (used q (run_up a run.1)) other.1)) h.kept
      ∙ ap (λ (p : Started → Bool). map (started_up a) (filter p h.kept)) (λ i other. not ((ap (λ (ns : List ℕ). holds_one ns (run_up a other.1)) (used_up run.1) ∙ holds_one_up (used q run.1) other.1) i)) in
      let matched = sym (map-append (started_up a) h.matched (run ∷ [])) in
      let taken = ap (λ (l : List ℕ). up a h.taken ++ l) (used_up run.1) ∙ sym (map-append (λ n. n + a) h.taken (used q run.1)) in
      λ i. record { kept = kept i; matched = matched i; taken = taken i }

  kept_up : (h : Handling) (run : Started) → kept_with (handling_up a h) (started_up a run) ≡ handling_up a (kept_with h run)
  kept_up h run = ap (λ (l : List Started). let made : Handling = record { kept = l; matched = all_up a h.matched; taken = up a h.taken } in made) (sym (map-append (started_up a) h.kept (run ∷ [])))

  grown_up : (h : Handling) (run : Started) → grown q (handling_up a h) (started_up a run) ≡ handling_up a (grown q h run)
  grown_up h run =
      (λ i. if complete_up run.1 i then completed_up h run i else kept_up h run i)
      ∙ choice_of (handling_up a) (is_complete q run.1) (completed q h run) (kept_with h run)

  passed_up : (h : Handling) (run : Started) (e : Event) → passed q (handling_up a h) (started_up a run) e ≡ handling_up a (passed q h run e)
  passed_up h run e = (λ i. if departs_up run.1 e i then handling_up a h else kept_up h run i) ∙ choice_of (handling_up a) (departs q run.1 e) h (kept_with h run)

  offered_up : (x : Numbered) (h : Handling) (run : Started) (o : Option ℕ) → offered q (numbered_up a x) (handling_up a h) (started_up a run) o ≡ handling_up a (offered q x h run o)
  offered_up x h run (Some name) =
      let pair : Pair = record { name = name; number = x.0; event = x.1 } in
      ap (λ (r : Run). grown q (handling_up a h) (run.0, r)) (sym (map-append (pair_up a) run.1 (pair ∷ []))) ∙ grown_up h (run.0, run.1 ++ pair ∷ [])
  offered_up x h run None = passed_up h run x.1

  handle_run_up : (x : Numbered) (h : Handling) (run : Started) → handle_run q (numbered_up a x) (handling_up a h) (started_up a run) ≡ handling_up a (handle_run q x h run)
  handle_run_up x h run =
      let kept : Handling = kept_with h run in
      let given : Handling = offered q x h run (takes q run.1 x.1) in
      (λ i. if holds_one_up h.taken run.1 i then handling_up a h
      else if among_up a h.taken x.0 i then kept_up h run i
      else (ap (offered q (numbered_up a x) (handling_up a h) (started_up a run)) (takes_up run.1 x.1) ∙ offered_up x h run (takes q run.1 x.1)) i)
      ∙ ap (λ (z : Handling). if holds_one h.taken run.1 then handling_up a h else z) (choice_of (handling_up a) (is_among h.taken x.0) kept given)
      ∙ choice_of (handling_up a) (holds_one h.taken run.1) h (if is_among h.taken x.0 then kept else given)

  none_up : (runs : List Started) → no_runs (all_up a runs) ≡ no_runs runs
  none_up [] = refl
  none_up (run ∷ runs) = refl

  may_start_up : (select : Select) (s : State) (h : Handling) (x : Numbered) → may_start select q (state_up a s) (handling_up a h) (numbered_up a x) ≡ may_start select q s h x
  may_start_up First s h x = none_up s.open_runs
  may_start_up Last s h x =
      list_all-map (λ run. is_none (takes q run.1 x.1)) (started_up a) s.open_runs
      ∙ ap (λ (p : Started → Bool). list_all p s.open_runs) (λ i run. is_none (takes_up run.1 x.1 i))
  may_start_up Each s h x = λ i. not (among_up a h.taken x.0 i) && nat_lt (length-map h.kept (started_up a) i) 64

  started_with_up : (x : Numbered) (h : Handling) (count : ℕ) (o : Option ℕ) → started_with q (numbered_up a x) (handling_up a h) count o ≡ state_up a (started_with q x h count o)
  started_with_up x h count None = refl
  started_with_up x h count (Some name) =
      ap (λ (g : Handling). let made : State = record { open_runs = g.kept; matched = g.matched; started = count + 1 } in made)
      (grown_up h (count + 1, (record { name = name; number = x.0; event = x.1 }) ∷ []))

  handle_up : (s : State) (x : Numbered) → handle q (state_up a s) (numbered_up a x) ≡ state_up a (handle q s x)
  handle_up s x =
      let before : Handling = record { kept = []; matched = s.matched; taken = [] } in
      let after : Handling = fold (handle_run q x) before s.open_runs in
      let all = fold_changed_runs x before s.open_runs in
      ap (λ (h : Handling). started_with q (numbered_up a x) h s.started (if may_start q.select q (state_up a s) h (numbered_up a x) then takes q [] x.1 else None)) all
      ∙ ap (λ (b : Bool). started_with q (numbered_up a x) (handling_up a after) s.started (if b then takes q [] x.1 else None)) (may_start_up q.select s after x)
      ∙ started_with_up x after s.started (if may_start q.select q s after x then takes q [] x.1 else None)
    where
      fold_changed_runs : (x : Numbered) (h : Handling) (runs : List Started) → fold (handle_run q (numbered_up a x)) (handling_up a h) (all_up a runs) ≡ handling_up a (fold (handle_run q x) h runs)
      fold_changed_runs x h [] = refl
      fold_changed_runs x h (run ∷ runs) = ap (λ (z : Handling). fold (handle_run q (numbered_up a x)) z (all_up a runs)) (handle_run_up x h run) ∙ fold_changed_runs x (handle_run q x h run) runs

  -- the state after events is that after the same events with earlier numbers, moved on
  pub state_moved : (xs : List Numbered) → state q (map (numbered_up a) xs) ≡ state_up a (state q xs)
  state_moved xs = fold_changed (handle q) (handle q) (state_up a) (numbered_up a) handle_up fresh xs

  -- and so are the runs that matched
  pub matched_moved : (s : State) → matched_runs (state_up a s) ≡ map (run_up a) (matched_runs s)
  matched_moved s = map_map (started_up a) (λ run. run.1) s.matched ∙ sym (map_map (λ (run : Started). run.1) (run_up a) s.matched)

  -- the numbers that a moved run binds to a name
  under_up : (r : Run) (name : ℕ) → numbers_under (run_up a r) name ≡ up a (numbers_under r name)
  under_up r name =
      let own = filter (λ pair. pair.name == name) r in
      ap (map (λ (pair : Pair). pair.number)) (filter_map_is (pair_up a) (λ pair. pair.name == name) r)
      ∙ map_map (pair_up a) (λ pair. pair.number) own ∙ sym (map_map (λ (pair : Pair). pair.number) (λ n. n + a) own)

  pub bindings_up : (r : Run) → bindings q (run_up a r) ≡ map (λ pair. (pair.0, up a pair.1)) (bindings q r)
  bindings_up r =
      (λ i. map (λ name. (name, under_up r name i)) (bound_names q))
      ∙ sym (map_map (λ name. (name, numbers_under r name)) (λ pair. (pair.0, up a pair.1)) (bound_names q))

  -- what moved runs use
  pub all_used_up : (runs : List Run) → flat_map (used q) (map (run_up a) runs) ≡ up a (flat_map (used q) runs)
  all_used_up [] = refl
  all_used_up (r ∷ runs) = (λ i. used_up r i ++ all_used_up runs i) ∙ sym (map-append (λ n. n + a) (used q r) (flat_map (used q) runs))
