-- A run's turn, and the start of one, by how the runs stand against the moves.
use Rattle.std.proofs.Common.{◌≡◌, ℕ, ◌+◌, Bool, true, false, ◌&&◌, ◌||◌, ◌==◌, List, [], ◌∷◌, ◌++◌, map, get_or, refl, sym, ap, subst, ◌∙◌, append_assoc, arith}
use Rattle.std.specs.Prelude.{if◌then◌else◌}
use Rattle.std.specs.List.{All, filter, flat_map, list_any}
use Rattle.std.proofs.lemmas.Grind.{flat_map-append}
use Rattle.std.proofs.lemmas.List.{append-nil, map-append}
use Rattle.std.proofs.lemmas.List.Elements.{All-append, All-cons, All-head, All-tail}
use Rattle.std.proofs.lemmas.List.Folds.{list_any-append}
use Rattle.sp_plan.specs.declared.plan.Plan.{Plan}
use Rattle.sp_plan.specs.Windows.{Numbered}
use Rattle.sp_plan.specs.Runs.{Pair, Started, holds_one, is_complete, used}
use Rattle.sp_plan.specs.Moves.{Move, Abandoned, Opened, abandons, growing, pair_given, without_run}
use Rattle.sp_match.specs.declared.run.Fate.{Fate}
use Rattle.sp_match.specs.declared.run.Fate.TheVariants.{Stays, Completes, Leaves}
use Rattle.sp_match.specs.inside.Kept.{Kept, before, empty, pairs, started, stays}
use Rattle.sp_match.specs.inside.Effects.{run_with_event, completes, loses, run_after_use, open_runs, run_after_binding, used_by_binding}
use Rattle.sp_match.specs.inside.Tally.{Tally, is_leaving}
use Rattle.sp_match.proofs.RunNumbersRise.{Rising, Absent, absent_above, absent_below, absent_join}
use Rattle.sp_match.proofs.RunInTheMiddle.{without_middle}
use Rattle.sp_match.proofs.GrownRunIsGood.{before_fate, used_grown}
use Rattle.sp_match.proofs.RunsAfterBinding.{none_loses}
use Rattle.sp_match.proofs.OpenRuns.{open_append, rising_cut, rising_open}
use Rattle.sp_match.proofs.TurnShows.{back, front, pairs_are}
use Rattle.sp_match.proofs.RunsTally.{absent_any, absent_filter, all_apart, all_parts, growing_abandons, growing_given, itself, losing, losing_lists, rising_without, tallies_on}

not_leaving : (f : Fate) → stays f ≡ true → is_leaving f ≡ false
not_leaving Stays e = refl
not_leaving Completes e = cc
not_leaving Leaves e = cc

-- the runs before and behind the one at hand have other numbers
pub apart_front : (fs bs : List Kept) (k : Kept) (top : ℕ) → Rising 0 top (map started (fs ++ k ∷ bs)) → All (λ j. (k.number == j.number) ≡ false) fs
apart_front fs bs k top up =
    let cut = rising_cut 0 top (map started fs) (started k) (map started bs) (subst (Rising 0 top) (map-append started fs (k ∷ bs)) up) in
    all_apart k.number fs (absent_above k.number 0 cut.0 (map started fs) cut.1 cut.2)

pub apart_back : (fs bs : List Kept) (k : Kept) (top : ℕ) → Rising 0 top (map started (fs ++ k ∷ bs)) → All (λ j. (k.number == j.number) ≡ false) bs
apart_back fs bs k top up =
    let cut = rising_cut 0 top (map started fs) (started k) (map started bs) (subst (Rising 0 top) (map-append started fs (k ∷ bs)) up) in
    all_apart k.number bs (absent_below k.number k.number top (map started bs) cut.3 (omega arith))

module _ (q : Plan) (x : Numbered) (fs bs : List Kept) (k : Kept) (name top : ℕ) (open_yet : stays k.fate ≡ true) (same : map (λ p. p.0) k.bound ≡ map (λ p. p.0) k.events)
    (uses : (run_with_event q name x k).used ≡ used q (pairs (run_with_event q name x k))) (up : Rising 0 top (map started (fs ++ k ∷ bs))) (back_is : before x.0 (run_with_event q name x k) ≡ before x.0 k) (ms : List Move) (runs : List Started) (opens : runs ≡ open_runs fs ++ started k ∷ open_runs bs) where
  abbrev pair : Pair
  pair = record { name = name; number = x.0; event = x.1 }

  abbrev grown : List Pair
  grown = pairs k ++ pair ∷ []

  abbrev ns : List ℕ
  ns = used_by_binding q name x k

  abbrev more : List Move
  more = growing q runs (started k) pair

  pairs_grown : pairs (run_with_event q name x k) ≡ grown
  pairs_grown = pairs_are q x fs bs k name top open_yet same uses up

  none_front : Absent k.number (open_runs fs)
  none_front = front q x fs bs k name top open_yet same uses up

  none_back : Absent k.number (open_runs bs)
  none_back = back q x fs bs k name top open_yet same uses up

  gone : without_run k.number runs ≡ open_runs fs ++ open_runs bs
  gone = ap (without_run k.number) opens ∙ without_middle (open_runs fs) (started k) (open_runs bs) none_front none_back

  uses_is : ns ≡ (if is_complete q grown then used q grown else [])
  uses_is = (λ i. if is_complete q (pairs (run_with_event q name x k)) then uses i else []) ∙ λ i. if is_complete q (pairs_grown i) then used q (pairs_grown i) else []

  lists : All (λ j. list_any (λ other. other.0 == j.number) (losing q runs (started k) pair) ≡ loses ns j) (fs ++ bs)
  lists =
      losing_lists q name x k runs (fs ++ bs) top (started k) pair uses_is (gone ∙ sym (open_append fs bs))
      (subst (Rising 0 top) (sym (map-append started fs bs)) (rising_without 0 top (map started fs) (started k) (map started bs) (subst (Rising 0 top) (map-append started fs (k ∷ bs)) up)))

  -- the run that binds isn't abandoned
  none_lost : (b : Bool) → list_any (λ other. other.0 == k.number) (if b then filter (λ other. holds_one (used q grown) other.1) (without_run k.number runs) else []) ≡ false
  none_lost true =
      ap (λ (l : List Started). list_any (λ other. other.0 == k.number) (filter (λ other. holds_one (used q grown) other.1) l)) gone
      ∙ absent_any k.number (filter (λ other. holds_one (used q grown) other.1) (open_runs fs ++ open_runs bs))
      (absent_filter (λ other. holds_one (used q grown) other.1) k.number (open_runs fs ++ open_runs bs) (absent_join k.number (open_runs fs) (open_runs bs) none_front none_back))
  none_lost false = refl

  stays_or_completes : (b : Bool) → completes q name x k ≡ b → is_leaving (run_after_use ns (run_after_binding q name x k)).fate ≡ false
  stays_or_completes true e = λ i. is_leaving (if stays (if e i then Completes else k.fate) && holds_one ns (pairs (run_after_binding q name x k)) then Leaves else (if e i then Completes else k.fate))
  stays_or_completes false e =
      (λ i. is_leaving (if stays (if e i then Completes else k.fate) && holds_one (if e i then (run_with_event q name x k).used else []) (pairs (run_after_binding q name x k)) then Leaves else (if e i then Completes else k.fate)))
      ∙ (λ i. is_leaving (if none_loses (run_with_event q name x k) i then Leaves else k.fate)) ∙ not_leaving k.fate open_yet

  tally_bound : Tally x.0 ms k → Tally x.0 (ms ++ more) (run_after_use ns (run_after_binding q name x k))
  tally_bound tally =
      let r = k.number in
      let was : before x.0 k ≡ before x.0 (run_after_use ns (run_after_binding q name x k)) =
      sym (before_fate x.0 (run_after_use ns (run_after_binding q name x k)).fate (run_with_event q name x k) ∙ back_is) in
      record {
        given = pairs_grown ∙ ap (λ (l : List Pair). l ++ pair ∷ []) tally.given ∙ append_assoc (pairs (before x.0 k)) (flat_map (pair_given r) ms) (pair ∷ [])
            ∙ (λ i. pairs (was i) ++ (flat_map (pair_given r) ms ++ (if sym (itself r) i then pair ∷ [] else [])))
            ∙ ap (λ (l : List Pair). pairs (before x.0 (run_after_use ns (run_after_binding q name x k))) ++ l) ((λ i. flat_map (pair_given r) ms ++ sym (growing_given q runs (started k) pair r) i) ∙ sym (flat_map-append (pair_given r) ms more));
        leaves = list_any-append (abandons r) ms more ∙ (λ i. (tally.leaves ∙ not_leaving k.fate open_yet) i || (growing_abandons q runs (started k) pair r ∙ none_lost (is_complete q grown)) i)
            ∙ sym (stays_or_completes (completes q name x k) refl);
      }

  pub bind_tallies : All (Tally x.0 ms) (fs ++ k ∷ bs) → All (Tally x.0 (ms ++ more)) (map (run_after_use ns) (fs ++ run_after_binding q name x k ∷ bs))
  bind_tallies tallies =
      let parts = all_parts (Tally x.0 ms) fs (k ∷ bs) tallies in
      let listed = all_parts (λ j. list_any (λ other. other.0 == j.number) (losing q runs (started k) pair) ≡ loses ns j) fs bs lists in
      subst (All (Tally x.0 (ms ++ more))) (sym (map-append (run_after_use ns) fs (run_after_binding q name x k ∷ bs)))
      (All-append (Tally x.0 (ms ++ more)) (map (run_after_use ns) fs) (run_after_use ns (run_after_binding q name x k) ∷ map (run_after_use ns) bs)
      (tallies_on q x.0 ns ms runs (started k) pair fs (apart_front fs bs k top up) listed.0 parts.0)
      (All-cons (Tally x.0 (ms ++ more)) (run_after_use ns (run_after_binding q name x k)) (map (run_after_use ns) bs) (tally_bound (All-head (Tally x.0 ms) k bs parts.1))
      (tallies_on q x.0 ns ms runs (started k) pair bs (apart_back fs bs k top up) listed.1 (All-tail (Tally x.0 ms) k bs parts.1))))

-- a move that is not about a run
tally_past : (n : ℕ) (ms : List Move) (m : Move) (k : Kept) → pair_given k.number m ≡ [] → abandons k.number m ≡ false → Tally n ms k → Tally n (ms ++ m ∷ []) k
tally_past n ms m k nothing no_one tally = record {
  given = tally.given ∙ ap (λ (l : List Pair). pairs (before n k) ++ l)
      (sym (append-nil (flat_map (pair_given k.number) ms)) ∙ (λ i. flat_map (pair_given k.number) ms ++ (sym nothing i ++ [])) ∙ sym (flat_map-append (pair_given k.number) ms (m ∷ [])));
  leaves = list_any-append (abandons k.number) ms (m ∷ []) ∙ (λ i. tally.leaves i || (no_one i || false)) ∙ or_false (is_leaving k.fate);
}
  where
    or_false : (b : Bool) → (b || (false || false)) ≡ b
    or_false true = refl
    or_false false = refl

-- one run leaves
pub leave_tallies : (n : ℕ) (fs bs : List Kept) (k : Kept) (top : ℕ) (ms : List Move) → Rising 0 top (map started (fs ++ k ∷ bs)) → All (Tally n ms) (fs ++ k ∷ bs)
    → All (Tally n (ms ++ Abandoned k.number ∷ [])) (fs ++ (record k { fate = Leaves }) ∷ bs)
leave_tallies n fs bs k top ms up tallies =
    let parts = all_parts (Tally n ms) fs (k ∷ bs) tallies in
    let apart = apart_front fs bs k top up in
    let behind = apart_back fs bs k top up in
    let rest = All-tail (Tally n ms) k bs parts.1 in
    All-append (Tally n (ms ++ Abandoned k.number ∷ [])) fs ((record k { fate = Leaves }) ∷ bs)
    (λ i d within. tally_past n ms (Abandoned k.number) (get_or fs i d) refl (apart i d within) (parts.0 i d within))
    (All-cons (Tally n (ms ++ Abandoned k.number ∷ [])) (record k { fate = Leaves }) bs (own (All-head (Tally n ms) k bs parts.1))
    (λ i d within. tally_past n ms (Abandoned k.number) (get_or bs i d) refl (behind i d within) (rest i d within)))
  where
    any_true : (b : Bool) → (b || (true || false)) ≡ true
    any_true true = refl
    any_true false = refl

    own : Tally n ms k → Tally n (ms ++ Abandoned k.number ∷ []) (record k { fate = Leaves })
    own tally = record {
      given = tally.given ∙ (λ i. pairs (sym (before_fate n Leaves k) i) ++ flat_map (pair_given k.number) ms)
          ∙ ap (λ (l : List Pair). pairs (before n (record k { fate = Leaves })) ++ l) (sym (append-nil (flat_map (pair_given k.number) ms)) ∙ sym (flat_map-append (pair_given k.number) ms (Abandoned k.number ∷ [])));
      leaves = list_any-append (abandons k.number) ms (Abandoned k.number ∷ []) ∙ (λ i. list_any (abandons k.number) ms || (itself k.number i || false)) ∙ any_true (list_any (abandons k.number) ms);
    }

-- a new run starts: the runs before it
pub start_tallies : (q : Plan) (x : Numbered) (ks : List Kept) (name n : ℕ) (ms : List Move) (runs : List Started) → open_runs ks ≡ runs → Rising 0 n (map started ks) → All (Tally x.0 ms) ks
    → (let pair : Pair = record { name = name; number = x.0; event = x.1 } in
    All (Tally x.0 ((ms ++ Opened ∷ []) ++ growing q (runs ++ (n + 1, []) ∷ []) (n + 1, []) pair)) (map (run_after_use (used_by_binding q name x (empty (n + 1)))) ks))
start_tallies q x ks name n ms runs opens up tallies =
    let k : Kept = empty (n + 1) in
    let pair : Pair = record { name = name; number = x.0; event = x.1 } in
    let run : Started = (n + 1, []) in
    let grown : List Pair = pair ∷ [] in
    let none : Absent (n + 1) (map started ks) = absent_above (n + 1) 0 n (map started ks) up (omega arith) in
    let none_open : Absent (n + 1) (open_runs ks) = absent_above (n + 1) 0 n (open_runs ks) (rising_open 0 n ks up) (omega arith) in
    let gone : without_run (n + 1) (runs ++ run ∷ []) ≡ open_runs ks =
    ap (λ (l : List Started). without_run (n + 1) (l ++ run ∷ [])) (sym opens) ∙ without_middle (open_runs ks) run [] none_open tt ∙ append-nil (open_runs ks) in
    let uses : used_by_binding q name x k ≡ (if is_complete q grown then used q grown else []) = λ i. if is_complete q grown then used_grown q name x.0 x.1 k refl refl i else [] in
    tallies_on q x.0 (used_by_binding q name x k) (ms ++ Opened ∷ []) (runs ++ run ∷ []) run pair ks (all_apart (n + 1) ks none)
    (losing_lists q name x k (runs ++ run ∷ []) ks n run pair uses gone up) (λ i d within. tally_past x.0 ms Opened (get_or ks i d) refl refl (tallies i d within))
