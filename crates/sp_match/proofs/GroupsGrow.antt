-- The group of the run of a number, and what a move does to it.
use Rattle.std.proofs.Common.{◌≡◌, ◌≢◌, ℕ, ◌<◌, Bool, true, false, cond, not, ◌||◌, ◌==◌, List, [], ◌∷◌, ◌++◌, length, map, refl, sym, ap, ◌∙◌, arith}
use Rattle.std.specs.Prelude.{slice_get}
use Rattle.std.specs.List.{filter, flat_map, list_any}
use Rattle.std.proofs.lemmas.Bool.Decides.{nat_tests}
use Rattle.std.proofs.lemmas.List.{map-append}
use Rattle.std.proofs.lemmas.List.Concat.{flat_map-append}
use Rattle.std.proofs.lemmas.List.Elements.{filter-append}
use Rattle.std.proofs.lemmas.List.Folds.{list_any-append}
use Rattle.sp_base.specs.Numbers.{is_among}
use Rattle.sp_plan.specs.declared.plan.Plan.{Plan}
use Rattle.sp_plan.specs.Runs.{Pair, Run, Started, State, used, is_consumed}
use Rattle.sp_plan.specs.Moves.{is_run, without_run, with_pair, pairs_of}
use Rattle.sp_match.specs.public.Laws.{Sound, is_open, is_matched}
use Rattle.sp_match.proofs.RunsAreSound.{count, count_append, with_pair_number}

-- whether the run of the number, among these, has the number in its group
abbrev pub in_group : Plan → List Started → ℕ → ℕ → Bool
in_group q runs r i = is_among (used q (pairs_of runs r)) i

used_append : (q : Plan) (a b : Run) → used q (a ++ b) ≡ used q a ++ used q b
used_append q a b =
    let consumed : Pair → Bool = λ pair. is_consumed (slice_get q.names pair.name) in
    ap (map (λ (pair : Pair). pair.number)) (filter-append consumed a b) ∙ map-append (λ (pair : Pair). pair.number) (filter consumed a) (filter consumed b)

used_either : (q : Plan) (a b : Run) (i : ℕ) → is_among (used q (a ++ b)) i ≡ (is_among (used q a) i || is_among (used q b) i)
used_either q a b i = ap (λ (ns : List ℕ). is_among ns i) (used_append q a b) ∙ list_any-append (λ (m : ℕ). m == i) (used q a) (used q b)

pairs_append : (xs ys : List Started) (r : ℕ) → pairs_of (xs ++ ys) r ≡ pairs_of xs r ++ pairs_of ys r
pairs_append xs ys r = ap (flat_map (λ (run : Started). run.1)) (filter-append (is_run r) xs ys) ∙ flat_map-append (λ (run : Started). run.1) (filter (is_run r) xs) (filter (is_run r) ys)

pub group_append : (q : Plan) (xs ys : List Started) (r i : ℕ) → in_group q (xs ++ ys) r i ≡ (in_group q xs r i || in_group q ys r i)
group_append q xs ys r i = ap (λ (pairs : Run). is_among (used q pairs) i) (pairs_append xs ys r) ∙ used_either q (pairs_of xs r) (pairs_of ys r) i

pub or_left : (a b : Bool) → a ≡ true → (a || b) ≡ true
or_left true b is = refl
or_left false b is = absurd (cc)

pub or_right : (a b : Bool) → b ≡ true → (a || b) ≡ true
or_right true b is = refl
or_right false b is = is

-- a run with a group is there
pub group_there : (q : Plan) (xs : List Started) (r i : ℕ) → in_group q xs r i ≡ true → list_any (is_run r) xs ≡ true
group_there q [] r i among = absurd (cc)
group_there q (x ∷ xs) r i among = one (is_run r x) among (group_there q xs r i)
  where
    one : (b : Bool) → is_among (used q (flat_map (λ run. run.1) (cond b (x ∷ filter (is_run r) xs) (filter (is_run r) xs)))) i ≡ true
        → (in_group q xs r i ≡ true → list_any (is_run r) xs ≡ true) → (b || list_any (is_run r) xs) ≡ true
    one true among rest = refl
    one false among rest = rest among

-- a run that is there counts
there_counts : (r : ℕ) (xs : List Started) → list_any (is_run r) xs ≡ true → 0 < count r xs
there_counts r [] there = absurd (cc)
there_counts r (x ∷ xs) there = one (is_run r x) there (there_counts r xs)
  where
    one : (b : Bool) → (b || list_any (is_run r) xs) ≡ true → (list_any (is_run r) xs ≡ true → 0 < count r xs) → 0 < length (cond b (x ∷ filter (is_run r) xs) (filter (is_run r) xs))
    one true there rest = omega arith
    one false there rest = rest there

-- no run is open that has matched
pub apart : (s : State) (r : ℕ) → Sound s → is_open s r ≡ true → is_matched s r ≡ true → ⊥
apart s r sound opened matched =
    let once = sound.once r in
    let both = count_append r s.open_runs s.matched in
    let first = there_counts r s.open_runs opened in
    let second = there_counts r s.matched matched in
    omega arith

-- where the run of a number is taken away
pub without_there : (r x : ℕ) (xs : List Started) → list_any (is_run x) (without_run r xs) ≡ true → (x ≢ r) × (list_any (is_run x) xs ≡ true)
without_there r x [] there = absurd (cc)
without_there r x (y ∷ ys) there = one (is_run r y) refl there (without_there r x ys)
  where
    two : (c : Bool) → is_run x y ≡ c → is_run r y ≡ false → (c || list_any (is_run x) (without_run r ys)) ≡ true
        → (list_any (is_run x) (without_run r ys) ≡ true → (x ≢ r) × (list_any (is_run x) ys ≡ true)) → (x ≢ r) × ((c || list_any (is_run x) ys) ≡ true)
    two true is other there rest = (grind (arith, nat_tests), refl)
    two false is other there rest = rest there

    one : (b : Bool) → is_run r y ≡ b → list_any (is_run x) (cond (not b) (y ∷ without_run r ys) (without_run r ys)) ≡ true
        → (list_any (is_run x) (without_run r ys) ≡ true → (x ≢ r) × (list_any (is_run x) ys ≡ true)) → (x ≢ r) × (list_any (is_run x) (y ∷ ys) ≡ true)
    one true is there rest = let found = rest there in (found.0, or_right (is_run x y) (list_any (is_run x) ys) found.1)
    one false is there rest = two (is_run x y) refl is there rest

pub without_group : (q : Plan) (r x i : ℕ) (xs : List Started) → x ≢ r → in_group q (without_run r xs) x i ≡ in_group q xs x i
without_group q r x i xs other = ap (λ (runs : List Started). is_among (used q (flat_map (λ run. run.1) runs)) i) (same xs)
  where
    same : (xs : List Started) → filter (is_run x) (without_run r xs) ≡ filter (is_run x) xs
    same [] = refl
    same (y ∷ ys) = one (is_run r y) refl (same ys)
      where
        one : (b : Bool) → is_run r y ≡ b → filter (is_run x) (without_run r ys) ≡ filter (is_run x) ys
            → filter (is_run x) (cond (not b) (y ∷ without_run r ys) (without_run r ys)) ≡ filter (is_run x) (y ∷ ys)
        one true is rest = let differs : is_run x y ≡ false = grind (arith, nat_tests) in rw differs rest
        one false is rest = ap (λ (z : List Started). cond (is_run x y) (y ∷ z) z) rest

-- the run of a number alone
pub own_there : (r x : ℕ) (xs : List Started) → list_any (is_run x) (filter (is_run r) xs) ≡ true → (x ≡ r) × (list_any (is_run r) xs ≡ true)
own_there r x [] there = absurd (cc)
own_there r x (y ∷ ys) there = one (is_run r y) refl there (own_there r x ys)
  where
    two : (c : Bool) → is_run x y ≡ c → is_run r y ≡ true → (c || list_any (is_run x) (filter (is_run r) ys)) ≡ true
        → (list_any (is_run x) (filter (is_run r) ys) ≡ true → (x ≡ r) × (list_any (is_run r) ys ≡ true)) → x ≡ r
    two true is own there rest = grind (arith, nat_tests)
    two false is own there rest = (rest there).0

    one : (b : Bool) → is_run r y ≡ b → list_any (is_run x) (cond b (y ∷ filter (is_run r) ys) (filter (is_run r) ys)) ≡ true
        → (list_any (is_run x) (filter (is_run r) ys) ≡ true → (x ≡ r) × (list_any (is_run r) ys ≡ true)) → (x ≡ r) × ((b || list_any (is_run r) ys) ≡ true)
    one true is there rest = (two (is_run x y) refl is there rest, refl)
    one false is there rest = rest there

pub own_group : (q : Plan) (r i : ℕ) (xs : List Started) → in_group q (filter (is_run r) xs) r i ≡ in_group q xs r i
own_group q r i xs = ap (λ (runs : List Started). is_among (used q (flat_map (λ run. run.1) runs)) i) (same xs)
  where
    same : (xs : List Started) → filter (is_run r) (filter (is_run r) xs) ≡ filter (is_run r) xs
    same [] = refl
    same (y ∷ ys) = one (is_run r y) refl (same ys)
      where
        one : (b : Bool) → is_run r y ≡ b → filter (is_run r) (filter (is_run r) ys) ≡ filter (is_run r) ys
            → filter (is_run r) (cond b (y ∷ filter (is_run r) ys) (filter (is_run r) ys)) ≡ cond b (y ∷ filter (is_run r) ys) (filter (is_run r) ys)
        one true is rest = rw is (ap (λ (z : List Started). y ∷ z) rest)
        one false is rest = rest

-- where the run of a number takes a pair
pub with_pair_there : (r x : ℕ) (pair : Pair) (xs : List Started) → list_any (is_run x) (map (with_pair r pair) xs) ≡ list_any (is_run x) xs
with_pair_there r x pair [] = refl
with_pair_there r x pair (y ∷ ys) = rw (with_pair_number r pair y) (ap (λ (b : Bool). is_run x y || b) (with_pair_there r x pair ys))

-- a group has what a run's own pairs or those of the rest have
group_push : (q : Plan) (own : Run) (rest : List Started) (i : ℕ) → is_among (used q (own ++ flat_map (λ run. run.1) rest)) i ≡ (is_among (used q own) i || is_among (used q (flat_map (λ run. run.1) rest)) i)
group_push q own rest i = used_either q own (flat_map (λ run. run.1) rest) i

pub with_pair_group : (q : Plan) (r x i : ℕ) (pair : Pair) (xs : List Started) → in_group q xs x i ≡ true → in_group q (map (with_pair r pair) xs) x i ≡ true
with_pair_group q r x i pair [] among = absurd (cc)
with_pair_group q r x i pair (y ∷ ys) among = rw (with_pair_number r pair y) (one (is_run x y) among (with_pair_group q r x i pair ys))
  where
    own : (b : Bool) → is_among (used q y.1) i ≡ true → is_among (used q (cond {A = Started} b (y.0, y.1 ++ pair ∷ []) y).1) i ≡ true
    own true among = used_either q y.1 (pair ∷ []) i ∙ or_left (is_among (used q y.1) i) (is_among (used q (pair ∷ [])) i) among
    own false among = among

    two : (c : Bool) → is_among (used q y.1) i ≡ c → (c || in_group q ys x i) ≡ true → (in_group q ys x i ≡ true → in_group q (map (with_pair r pair) ys) x i ≡ true)
        → (is_among (used q (with_pair r pair y).1) i || in_group q (map (with_pair r pair) ys) x i) ≡ true
    two true is among rest = or_left (is_among (used q (with_pair r pair y).1) i) (in_group q (map (with_pair r pair) ys) x i) (own (is_run r y) is)
    two false is among rest = or_right (is_among (used q (with_pair r pair y).1) i) (in_group q (map (with_pair r pair) ys) x i) (rest among)

    one : (b : Bool) → is_among (used q (flat_map (λ run. run.1) (cond b (y ∷ filter (is_run x) ys) (filter (is_run x) ys)))) i ≡ true
        → (in_group q ys x i ≡ true → in_group q (map (with_pair r pair) ys) x i ≡ true)
        → is_among (used q (flat_map (λ run. run.1) (cond b (with_pair r pair y ∷ filter (is_run x) (map (with_pair r pair) ys)) (filter (is_run x) (map (with_pair r pair) ys))))) i ≡ true
    one true among rest =
        group_push q (with_pair r pair y).1 (filter (is_run x) (map (with_pair r pair) ys)) i
        ∙ two (is_among (used q y.1) i) refl (sym (group_push q y.1 (filter (is_run x) ys) i) ∙ among) rest
    one false among rest = rest among
