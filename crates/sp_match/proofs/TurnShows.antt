-- A run's turn, against the definitions.
use Rattle.std.proofs.Common.{◌≡◌, ℕ, ◌<◌, Bool, true, false, cond, List, [], ◌∷◌, ◌++◌, map, refl, sym, ap, subst, ◌∙◌, arith}
use Rattle.std.specs.Prelude.{if◌then◌else◌}
use Rattle.std.specs.List.{filter, flat_map}
use Rattle.std.proofs.lemmas.List.{map-append}
use Rattle.std.proofs.lemmas.List.Elements.{filter-append}
use Rattle.sp_plan.specs.declared.plan.Plan.{Plan}
use Rattle.sp_plan.specs.Windows.{Numbered}
use Rattle.sp_plan.specs.Runs.{Pair, Started, State, bindings, holds_one, is_complete, used}
use Rattle.sp_plan.specs.Moves.{Acting, Told, GrownTold, CompletedTold, abandoned, acting_on, without_run, apply_all, growing, told}
use Rattle.sp_match.specs.declared.run.Fate.TheVariants.{Completes, Leaves}
use Rattle.sp_match.specs.inside.Kept.{Kept, pairs, started, stays}
use Rattle.sp_match.specs.inside.Effects.{run_with_event, completes, told_if_complete, leaving_told, run_after_use, open_runs, use_told, run_after_binding, binding_told, used_by_binding}
use Rattle.sp_match.specs.inside.Shows.{Shows}
use Rattle.sp_match.proofs.RunNumbersRise.{Rising, Absent, absent_above, absent_below}
use Rattle.sp_match.proofs.RunInTheMiddle.{without_middle}
use Rattle.sp_match.proofs.GrowingMoves.{at, frees, grown_to}
use Rattle.sp_match.proofs.MovesFollowRuns.{led_on}
use Rattle.sp_match.proofs.MovesAreTold.{growing_told, left_told, told_then}
use Rattle.sp_match.proofs.OpenRuns.{open_at, open_after_use, open_told, rising_cut, rising_open, shut_at}
use Rattle.sp_match.proofs.RunsAfterBinding.{none_after_use, none_told}
use Rattle.sp_match.proofs.PairsOfRuns.{pairs_push}

-- one of the runs, between these, binds the event to the name
module _ (q : Plan) (x : Numbered) (fs bs : List Kept) (k : Kept) (name top : ℕ) (open_yet : stays k.fate ≡ true) (same : map (λ p. p.0) k.bound ≡ map (λ p. p.0) k.events)
    (uses : (run_with_event q name x k).used ≡ used q (pairs (run_with_event q name x k))) (up : Rising 0 top (map started (fs ++ k ∷ bs))) where
  abbrev xs : List Started
  xs = open_runs fs

  abbrev ys : List Started
  ys = open_runs bs

  abbrev pair : Pair
  pair = record { name = name; number = x.0; event = x.1 }

  abbrev grown : List Pair
  grown = pairs k ++ pair ∷ []

  abbrev after : List Kept
  after = map (run_after_use (used_by_binding q name x k)) (fs ++ run_after_binding q name x k ∷ bs)

  pub pairs_are : pairs (run_with_event q name x k) ≡ grown
  pairs_are = pairs_push k.bound k.events name x.0 x.1 same

  rising : (mid : ℕ) × Rising 0 mid xs × (mid < k.number) × Rising k.number top ys
  rising =
      let cut = rising_cut 0 top (map started fs) (started k) (map started bs) (subst (Rising 0 top) (map-append started fs (k ∷ bs)) up) in
      (cut.0, rising_open 0 cut.0 fs cut.1, cut.2, rising_open k.number top bs cut.3)

  pub front : Absent k.number xs
  front = absent_above k.number 0 rising.0 xs rising.1 rising.2

  pub back : Absent k.number ys
  back = absent_below k.number k.number top ys rising.3 (omega arith)

  -- the runs that stay
  open_after : (b : Bool) → is_complete q grown ≡ b → open_runs after ≡ cond b (filter (frees (used q grown)) xs ++ filter (frees (used q grown)) ys) (xs ++ (k.number, grown) ∷ ys)
  open_after true done =
      let whole : completes q name x k ≡ true = ap (is_complete q) pairs_are ∙ done in
      let ns : used_by_binding q name x k ≡ used q grown = (λ i. if whole i then (run_with_event q name x k).used else []) ∙ uses ∙ ap (used q) pairs_are in
      let gone : stays (run_after_binding q name x k).fate ≡ false = λ i. stays (if whole i then Completes else k.fate) in
      open_after_use (used_by_binding q name x k) (fs ++ run_after_binding q name x k ∷ bs) ∙ (λ i. filter (frees (ns i)) (shut_at fs bs (run_after_binding q name x k) gone i)) ∙ filter-append (frees (used q grown)) xs ys
  open_after false not_yet =
      let part : completes q name x k ≡ false = ap (is_complete q) pairs_are ∙ not_yet in
      let ns : used_by_binding q name x k ≡ [] = λ i. if part i then (run_with_event q name x k).used else [] in
      let stays_on : stays (run_after_binding q name x k).fate ≡ true = (λ i. stays (if part i then Completes else k.fate)) ∙ open_yet in
      (λ i. open_runs (map (run_after_use (ns i)) (fs ++ run_after_binding q name x k ∷ bs))) ∙ ap open_runs (none_after_use (fs ++ run_after_binding q name x k ∷ bs)) ∙ open_at fs bs (run_after_binding q name x k) stays_on
      ∙ ap (λ (r : List Pair). xs ++ (k.number, r) ∷ ys) pairs_are

  -- what is told
  told_after : (b : Bool) → is_complete q grown ≡ b → binding_told q name x k ++ flat_map (use_told (used_by_binding q name x k)) (fs ++ run_after_binding q name x k ∷ bs)
      ≡ GrownTold k.number x.0 ∷ cond b (CompletedTold k.number (bindings q grown) (used q grown) ∷ map left_told (filter (λ other. holds_one (used q grown) other.1) (xs ++ ys))) []
  told_after true done =
      let whole : completes q name x k ≡ true = ap (is_complete q) pairs_are ∙ done in
      let ns : used_by_binding q name x k ≡ used q grown = (λ i. if whole i then (run_with_event q name x k).used else []) ∙ uses ∙ ap (used q) pairs_are in
      let gone : stays (run_after_binding q name x k).fate ≡ false = λ i. stays (if whole i then Completes else k.fate) in
      (λ i. (GrownTold k.number x.0 ∷ (if whole i then CompletedTold k.number (bindings q (pairs_are i)) (used q (pairs_are i)) ∷ [] else [])) ++ open_told (ns i) (fs ++ run_after_binding q name x k ∷ bs) i)
      ∙ ap (λ (l : List Started). GrownTold k.number x.0 ∷ CompletedTold k.number (bindings q grown) (used q grown) ∷ map left_told (filter (λ other. holds_one (used q grown) other.1) l)) (shut_at fs bs (run_after_binding q name x k) gone)
  told_after false not_yet =
      let part : completes q name x k ≡ false = ap (is_complete q) pairs_are ∙ not_yet in
      let ns : used_by_binding q name x k ≡ [] = λ i. if part i then (run_with_event q name x k).used else [] in
      (λ i. (GrownTold k.number x.0 ∷ told_if_complete q (run_with_event q name x k)) ++ flat_map (use_told (ns i)) (fs ++ run_after_binding q name x k ∷ bs))
      ∙ (λ i. (GrownTold k.number x.0 ∷ (if part i then CompletedTold k.number (bindings q (pairs (run_with_event q name x k))) (used q (pairs (run_with_event q name x k))) ∷ [] else [])) ++ none_told (fs ++ run_after_binding q name x k ∷ bs) i)

  pub bind_shows : (s : State) (a : Acting) (ts : List Told) (numbers : List ℕ) → Shows q s a (fs ++ k ∷ bs) ts
      → Shows q s (acting_on a (growing q a.now.open_runs (started k) pair) numbers) after (ts ++ (binding_told q name x k ++ flat_map (use_told (used_by_binding q name x k)) (fs ++ run_after_binding q name x k ∷ bs)))
  bind_shows s a ts numbers shows =
      let opens : a.now.open_runs ≡ xs ++ started k ∷ ys = sym shows.now ∙ open_at fs bs k open_yet in
      let now : a.now ≡ at (xs ++ started k ∷ ys) a.now.matched a.now.started = ap (λ (z : List Started). at z a.now.matched a.now.started) opens in
      record {
        now = open_after (is_complete q grown) refl ∙ one (is_complete q grown)
            ∙ sym (ap (λ (t : State). t.open_runs) (grown_to q xs ys a.now.matched a.now.started rising.0 top (started k) pair rising.1 rising.2 rising.3))
            ∙ sym (λ i. (apply_all (now i) (growing q (opens i) (started k) pair)).open_runs);
        told = (λ i. shows.told i ++ told_after (is_complete q grown) refl i)
            ∙ ap (λ (l : List Told). told q s a.moves ++ l) (sym (growing_told q xs ys a.now.matched a.now.started (started k) pair front back) ∙ sym (λ i. told q (now i) (growing q (opens i) (started k) pair)))
            ∙ ap (λ (t : State). told q s a.moves ++ told q t (growing q a.now.open_runs (started k) pair)) shows.led ∙ sym (told_then q s a.moves (growing q a.now.open_runs (started k) pair));
        led = led_on s a (growing q a.now.open_runs (started k) pair) numbers shows.led;
      }
    where
      one : (b : Bool) → cond b (filter (frees (used q grown)) xs ++ filter (frees (used q grown)) ys) (xs ++ (k.number, grown) ∷ ys)
          ≡ (cond b (at (filter (frees (used q grown)) xs ++ filter (frees (used q grown)) ys) (a.now.matched ++ (k.number, grown) ∷ []) a.now.started) (at (xs ++ (k.number, grown) ∷ ys) a.now.matched a.now.started)).open_runs
      one true = refl
      one false = refl

-- one of the runs, between these, leaves
pub leave_shows : (q : Plan) (fs bs : List Kept) (k : Kept) (top : ℕ) → stays k.fate ≡ true → Rising 0 top (map started (fs ++ k ∷ bs)) → (s : State) (a : Acting) (ts : List Told)
    → Shows q s a (fs ++ k ∷ bs) ts → Shows q s (acting_on a (abandoned (started k) ∷ []) []) (fs ++ (record k { fate = Leaves }) ∷ bs) (ts ++ leaving_told k ∷ [])
leave_shows q fs bs k top open_yet up s a ts shows =
    let cut = rising_cut 0 top (map started fs) (started k) (map started bs) (subst (Rising 0 top) (map-append started fs (k ∷ bs)) up) in
    let front = absent_above k.number 0 cut.0 (open_runs fs) (rising_open 0 cut.0 fs cut.1) cut.2 in
    let back = absent_below k.number k.number top (open_runs bs) (rising_open k.number top bs cut.3) (omega arith) in
    let opens : a.now.open_runs ≡ open_runs fs ++ started k ∷ open_runs bs = sym shows.now ∙ open_at fs bs k open_yet in
    record {
      now = shut_at fs bs (record k { fate = Leaves }) refl ∙ sym (without_middle (open_runs fs) (started k) (open_runs bs) front back) ∙ ap (without_run k.number) (sym opens);
      told = (λ i. shows.told i ++ leaving_told k ∷ []) ∙ sym (told_then q s a.moves (abandoned (started k) ∷ []));
      led = led_on s a (abandoned (started k) ∷ []) [] shows.led;
    }
