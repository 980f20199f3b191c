-- How the runs stand against the moves of an event.
use Rattle.std.proofs.Common.{◌≡◌, ℕ, ◌<◌, Bool, true, false, cond, ◌&&◌, ◌||◌, ◌==◌, List, [], ◌∷◌, ◌++◌, map, length, get_or, refl, sym, ap, subst, ◌∙◌, append_assoc, arith}
use Rattle.std.specs.Prelude.{if◌then◌else◌}
use Rattle.std.specs.List.{All, filter, flat_map, list_any}
use Rattle.std.proofs.lemmas.Bool.Decides.{nat_tests}
use Rattle.std.proofs.lemmas.Grind.{flat_map-append}
use Rattle.std.proofs.lemmas.List.{append-nil, drop_at, take_at}
use Rattle.std.proofs.lemmas.List.Elements.{All-cons, All-drop, All-map, All-nil, All-take}
use Rattle.std.proofs.lemmas.List.Folds.{list_any-append}
use Rattle.sp_plan.specs.declared.plan.Plan.{Plan}
use Rattle.sp_plan.specs.Windows.{Numbered}
use Rattle.sp_plan.specs.Runs.{Pair, Started, holds_one, is_complete, used}
use Rattle.sp_plan.specs.Moves.{Move, abandoned, abandons, completing, growing, pair_given, without_run}
use Rattle.sp_match.specs.declared.run.Fate.{Fate}
use Rattle.sp_match.specs.declared.run.Fate.TheVariants.{Stays, Completes, Leaves}
use Rattle.sp_match.specs.inside.Kept.{Kept, before, pairs, started, stays}
use Rattle.sp_match.specs.inside.Effects.{loses, run_after_use, open_runs, used_by_binding}
use Rattle.sp_match.specs.inside.Tally.{Tally, is_leaving}
use Rattle.sp_match.proofs.RunNumbersRise.{Rising, Absent, absent_above, absent_below, rising_join, rising_lower, rising_raise}
use Rattle.sp_match.proofs.GrownRunIsGood.{before_fate}
use Rattle.sp_match.proofs.RunsAfterBinding.{none_loses}

-- what the moves give by which a run takes a pair, and whom they abandon
given_abandoned : (n : ℕ) (runs : List Started) → flat_map (pair_given n) (map abandoned runs) ≡ []
given_abandoned n [] = refl
given_abandoned n (run ∷ runs) = given_abandoned n runs

any_abandoned : (n : ℕ) (runs : List Started) → list_any (abandons n) (map abandoned runs) ≡ list_any (λ other. other.0 == n) runs
any_abandoned n [] = refl
any_abandoned n (run ∷ runs) = ap (λ (b : Bool). (run.0 == n) || b) (any_abandoned n runs)

-- the runs that leave with one that completes
abbrev pub losing : Plan → List Started → Started → Pair → List Started
losing q runs run pair = if is_complete q (run.1 ++ pair ∷ []) then filter (λ other. holds_one (used q (run.1 ++ pair ∷ [])) other.1) (without_run run.0 runs) else []

pub growing_given : (q : Plan) (runs : List Started) (run : Started) (pair : Pair) (n : ℕ) → flat_map (pair_given n) (growing q runs run pair) ≡ (if run.0 == n then pair ∷ [] else [])
growing_given q runs run pair n = ap (λ (l : List Pair). (if run.0 == n then pair ∷ [] else []) ++ l) (one (is_complete q (run.1 ++ pair ∷ []))) ∙ append-nil (if run.0 == n then pair ∷ [] else [])
  where
    one : (b : Bool) → flat_map (pair_given n) (if b then completing q runs (run.0, run.1 ++ pair ∷ []) else []) ≡ []
    one true = given_abandoned n (filter (λ other. holds_one (used q (run.1 ++ pair ∷ [])) other.1) (without_run run.0 runs))
    one false = refl

pub growing_abandons : (q : Plan) (runs : List Started) (run : Started) (pair : Pair) (n : ℕ) → list_any (abandons n) (growing q runs run pair) ≡ list_any (λ other. other.0 == n) (losing q runs run pair)
growing_abandons q runs run pair n = one (is_complete q (run.1 ++ pair ∷ []))
  where
    one : (b : Bool) → list_any (abandons n) (if b then completing q runs (run.0, run.1 ++ pair ∷ []) else [])
        ≡ list_any (λ other. other.0 == n) (if b then filter (λ other. holds_one (used q (run.1 ++ pair ∷ [])) other.1) (without_run run.0 runs) else [])
    one true = any_abandoned n (filter (λ other. holds_one (used q (run.1 ++ pair ∷ [])) other.1) (without_run run.0 runs))
    one false = refl

-- a number that is absent
pub absent_any : (n : ℕ) (runs : List Started) → Absent n runs → list_any (λ other. other.0 == n) runs ≡ false
absent_any n [] none = refl
absent_any n (run ∷ runs) none = λ i. none.0 i || absent_any n runs none.1 i

pub absent_filter : (p : Started → Bool) (n : ℕ) (runs : List Started) → Absent n runs → Absent n (filter p runs)
absent_filter p n [] none = tt
absent_filter p n (run ∷ runs) none = one (p run) (absent_filter p n runs none.1)
  where
    one : (b : Bool) → Absent n (filter p runs) → Absent n (cond b (run ∷ filter p runs) (filter p runs))
    one true rest = (none.0, rest)
    one false rest = rest

absent_open : (n : ℕ) (ks : List Kept) → Absent n (map started ks) → Absent n (open_runs ks)
absent_open n [] none = tt
absent_open n (k ∷ ks) none = one (stays k.fate) (absent_open n ks none.1)
  where
    one : (b : Bool) → Absent n (open_runs ks) → Absent n (map started (cond b (k ∷ filter (λ k. stays k.fate) ks) (filter (λ k. stays k.fate) ks)))
    one true rest = (none.0, rest)
    one false rest = rest

pub all_apart : (r : ℕ) (ks : List Kept) → Absent r (map started ks) → All (λ k. (r == k.number) ≡ false) ks
all_apart r [] none = All-nil (λ k. (r == k.number) ≡ false)
all_apart r (k ∷ ks) none = All-cons (λ k. (r == k.number) ≡ false) k ks (let other : (k.number == r) ≡ false = none.0 in grind (arith, nat_tests)) (all_apart r ks none.1)

pub itself : (n : ℕ) → (n == n) ≡ true
itself n = grind (arith, nat_tests)

-- among open runs that pass a test, the one of a number is the run of that number
abbrev Listed : (Started → Bool) → List Started → Kept → Type 0
Listed p runs k = list_any (λ other. other.0 == k.number) runs ≡ (stays k.fate && p (started k))

listed : (p : Started → Bool) (ks : List Kept) (front : List Started) (low top : ℕ) → Rising 0 low front → Rising low top (map started ks) → All (Listed p (front ++ filter p (open_runs ks))) ks
listed p [] front low top before up = All-nil (Listed p (front ++ []))
listed p (k ∷ ks) front low top before up =
    let above : low < k.number = up.0 in
    let none_front = absent_any k.number front (absent_above k.number 0 low front before above) in
    let none_back = absent_any k.number (filter p (open_runs ks)) (absent_filter p k.number (open_runs ks) (absent_open k.number ks (absent_below k.number k.number top (map started ks) up.1 (omega arith)))) in
    subst (λ (l : List Started). All (Listed p (front ++ l)) (k ∷ ks)) (sym (head_is (stays k.fate) (p (started k)) refl))
    (one (stays k.fate && p (started k)) refl none_front none_back
    (listed p ks front k.number top (rising_raise 0 low k.number front before (omega arith)) up.1)
    (listed p ks (front ++ started k ∷ []) k.number top (rising_join 0 low k.number front (started k ∷ []) before (above, omega arith)) up.1))
  where
    head_is : (b c : Bool) → p (started k) ≡ c
        → filter p (map started (cond b (k ∷ filter (λ k. stays k.fate) ks) (filter (λ k. stays k.fate) ks))) ≡ cond (b && c) (started k ∷ filter p (open_runs ks)) (filter p (open_runs ks))
    head_is true c e = λ i. cond (e i) (started k ∷ filter p (open_runs ks)) (filter p (open_runs ks))
    head_is false c e = refl

    one : (t : Bool) → (stays k.fate && p (started k)) ≡ t → list_any (λ other. other.0 == k.number) front ≡ false → list_any (λ other. other.0 == k.number) (filter p (open_runs ks)) ≡ false
        → All (Listed p (front ++ filter p (open_runs ks))) ks → All (Listed p ((front ++ started k ∷ []) ++ filter p (open_runs ks))) ks
        → All (Listed p (front ++ cond t (started k ∷ filter p (open_runs ks)) (filter p (open_runs ks)))) (k ∷ ks)
    one true is none_front none_back without with_it =
        All-cons (Listed p (front ++ started k ∷ filter p (open_runs ks))) k ks
        (list_any-append (λ (other : Started). other.0 == k.number) front (started k ∷ filter p (open_runs ks))
        ∙ (λ i. none_front i || (itself k.number i || list_any (λ other. other.0 == k.number) (filter p (open_runs ks)))) ∙ sym is)
        (subst (λ (l : List Started). All (Listed p l) ks) (append_assoc front (started k ∷ []) (filter p (open_runs ks))) with_it)
    one false is none_front none_back without with_it =
        All-cons (Listed p (front ++ filter p (open_runs ks))) k ks
        (list_any-append (λ (other : Started). other.0 == k.number) front (filter p (open_runs ks)) ∙ (λ i. none_front i || none_back i) ∙ sym is) without

-- a run of which the moves more only say that it leaves where it is marked to leave
tally_on : (n : ℕ) (us : List ℕ) (ms ns : List Move) (k : Kept) → flat_map (pair_given k.number) ns ≡ [] → list_any (abandons k.number) ns ≡ loses us k → Tally n ms k → Tally n (ms ++ ns) (run_after_use us k)
tally_on n us ms ns k nothing says tally = record {
  given = tally.given ∙ (λ i. pairs (was i) ++ flat_map (pair_given k.number) ms)
      ∙ ap (λ (l : List Pair). pairs (before n (run_after_use us k)) ++ l) (sym (append-nil (flat_map (pair_given k.number) ms)) ∙ (λ i. flat_map (pair_given k.number) ms ++ sym nothing i) ∙ sym (flat_map-append (pair_given k.number) ms ns));
  leaves = list_any-append (abandons k.number) ms ns ∙ (λ i. tally.leaves i || says i) ∙ one k.fate (holds_one us (pairs k));
}
  where
    was : before n k ≡ before n (run_after_use us k)
    was = sym (before_fate n (run_after_use us k).fate k)

    one : (f : Fate) (h : Bool) → (is_leaving f || (stays f && h)) ≡ is_leaving (if stays f && h then Leaves else f)
    one Stays true = refl
    one Stays false = refl
    one Completes h = refl
    one Leaves h = refl

-- all runs but the one that binds
pub tallies_on : (q : Plan) (n : ℕ) (us : List ℕ) (ms : List Move) (runs : List Started) (run : Started) (pair : Pair) (ys : List Kept) → All (λ k. (run.0 == k.number) ≡ false) ys
    → All (λ k. list_any (λ other. other.0 == k.number) (losing q runs run pair) ≡ loses us k) ys → All (Tally n ms) ys → All (Tally n (ms ++ growing q runs run pair)) (map (run_after_use us) ys)
tallies_on q n us ms runs run pair ys apart lists tallies =
    All-map (Tally n (ms ++ growing q runs run pair)) (run_after_use us) ys (λ i k within. one (get_or ys i k) (apart i k within) (lists i k within) (tallies i k within))
  where
    one : (k : Kept) → (run.0 == k.number) ≡ false → list_any (λ other. other.0 == k.number) (losing q runs run pair) ≡ loses us k → Tally n ms k → Tally n (ms ++ growing q runs run pair) (run_after_use us k)
    one k other says tally =
        tally_on n us ms (growing q runs run pair) k (growing_given q runs run pair k.number ∙ λ i. if other i then pair ∷ [] else []) (growing_abandons q runs run pair k.number ∙ says) tally

-- the runs that leave, where the one that binds stands among these
pub losing_lists : (q : Plan) (name : ℕ) (x : Numbered) (k : Kept) (runs : List Started) (ys : List Kept) (top : ℕ) → (run : Started) (pair : Pair) → used_by_binding q name x k ≡ (if is_complete q (run.1 ++ pair ∷ []) then used q (run.1 ++ pair ∷ []) else [])
    → without_run run.0 runs ≡ open_runs ys → Rising 0 top (map started ys) → All (λ j. list_any (λ other. other.0 == j.number) (losing q runs run pair) ≡ loses (used_by_binding q name x k) j) ys
losing_lists q name x k runs ys top run pair uses gone up =
    subst (λ (us : List ℕ). All (λ j. list_any (λ other. other.0 == j.number) (losing q runs run pair) ≡ loses us j) ys) (sym uses) (one (is_complete q (run.1 ++ pair ∷ [])))
  where
    one : (b : Bool) → All (λ j. list_any (λ other. other.0 == j.number) (if b then filter (λ other. holds_one (used q (run.1 ++ pair ∷ [])) other.1) (without_run run.0 runs) else [])
        ≡ loses (if b then used q (run.1 ++ pair ∷ []) else []) j) ys
    one true =
        subst (λ (l : List Started). All (λ j. list_any (λ other. other.0 == j.number) (filter (λ other. holds_one (used q (run.1 ++ pair ∷ [])) other.1) l) ≡ loses (used q (run.1 ++ pair ∷ [])) j) ys) (sym gone)
        (listed (λ other. holds_one (used q (run.1 ++ pair ∷ [])) other.1) ys [] 0 top (omega arith) up)
    one false = λ i j within. sym (none_loses (get_or ys i j))

-- the numbers without one of them
pub rising_without : (low top : ℕ) (xs : List Started) (y : Started) (ys : List Started) → Rising low top (xs ++ y ∷ ys) → Rising low top (xs ++ ys)
rising_without low top [] y ys up = rising_lower low y.0 top ys (let above = up.0 in omega arith) up.1
rising_without low top (x ∷ xs) y ys up = (up.0, rising_without x.0 top xs y ys up.1)

-- a property of all is one of both parts
pub all_parts : {X : Type 0} (P : X → Type 0) (xs ys : List X) → All P (xs ++ ys) → All P xs × All P ys
all_parts P xs ys all =
    (subst (All P) (take_at xs ys (length xs) refl) (All-take P (length xs) (xs ++ ys) all), subst (All P) (drop_at xs ys (length xs) refl) (All-drop P (length xs) (xs ++ ys) all))
