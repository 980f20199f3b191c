-- Runs whose numbers rise, and what is done to the one run of a number.
use Rattle.std.proofs.Common.{◌≡◌, ℕ, ◌<◌, ◌≤◌, Bool, true, false, cond, List, [], ◌∷◌, ◌++◌, map, refl, arith}
use Rattle.std.specs.List.{filter}
use Rattle.std.proofs.lemmas.Bool.Decides.{nat_tests}
use Rattle.sp_plan.specs.Runs.{Pair, Started}
use Rattle.sp_plan.specs.Moves.{is_run, without_run, with_pair}

-- the numbers of the runs rise, each above low and none above top
abbrev pub Rising : ℕ → ℕ → List Started → Type 0
Rising low top [] = low ≤ top
Rising low top (run ∷ runs) = (low < run.0) × Rising run.0 top runs

-- no run has the number
abbrev pub Absent : ℕ → List Started → Type 0
Absent r [] = Unit {0}
Absent r (run ∷ runs) = (is_run r run ≡ false) × Absent r runs

pub rising_span : (low top : ℕ) (runs : List Started) → Rising low top runs → low ≤ top
rising_span low top [] up = up
rising_span low top (run ∷ runs) up = let rest = rising_span run.0 top runs up.1 in let first = up.0 in omega arith

pub rising_join : (low mid top : ℕ) (xs ys : List Started) → Rising low mid xs → Rising mid top ys → Rising low top (xs ++ ys)
rising_join low mid top [] ys front back = lower ys back
  where
    lower : (ys : List Started) → Rising mid top ys → Rising low top ys
    lower [] back = omega arith
    lower (y ∷ ys) back = (omega (arith, back.0), back.1)
rising_join low mid top (x ∷ xs) ys front back = (front.0, rising_join x.0 mid top xs ys front.1 back)

pub rising_lower : (low mid top : ℕ) (xs : List Started) → low ≤ mid → Rising mid top xs → Rising low top xs
rising_lower low mid top xs below up = rising_join low mid top [] xs below up

pub rising_filter : (p : Started → Bool) (low top : ℕ) (xs : List Started) → Rising low top xs → Rising low top (filter p xs)
rising_filter p low top [] up = up
rising_filter p low top (x ∷ xs) up = one (p x) (rising_filter p x.0 top xs up.1)
  where
    one : (b : Bool) → Rising x.0 top (filter p xs) → Rising low top (cond b (x ∷ filter p xs) (filter p xs))
    one true rest = (up.0, rest)
    one false rest = rising_lower low x.0 top (filter p xs) (omega (arith, up.0)) rest

pub rising_raise : (low mid top : ℕ) (xs : List Started) → Rising low mid xs → mid ≤ top → Rising low top xs
rising_raise low mid top [] up above = omega arith
rising_raise low mid top (x ∷ xs) up above = (up.0, rising_raise x.0 mid top xs up.1 above)

-- a number below all, or above all
pub absent_below : (r low top : ℕ) (xs : List Started) → Rising low top xs → r ≤ low → Absent r xs
absent_below r low top [] up below = tt
absent_below r low top (x ∷ xs) up below =
    let above = up.0 in
    (grind (arith, nat_tests), absent_below r x.0 top xs up.1 (omega arith))

pub absent_above : (r low top : ℕ) (xs : List Started) → Rising low top xs → top < r → Absent r xs
absent_above r low top [] up above = tt
absent_above r low top (x ∷ xs) up above =
    let span = rising_span x.0 top xs up.1 in
    (grind (arith, nat_tests), absent_above r x.0 top xs up.1 above)

pub absent_join : (r : ℕ) (xs ys : List Started) → Absent r xs → Absent r ys → Absent r (xs ++ ys)
absent_join r [] ys front back = back
absent_join r (x ∷ xs) ys front back = (front.0, absent_join r xs ys front.1 back)

-- what is done to the run of a number does nothing where it is absent
pub without_absent : (r : ℕ) (xs : List Started) → Absent r xs → without_run r xs ≡ xs
without_absent r [] none = refl
without_absent r (x ∷ xs) none = rw (none.0, without_absent r xs none.1)

pub with_pair_absent : (r : ℕ) (pair : Pair) (xs : List Started) → Absent r xs → map (with_pair r pair) xs ≡ xs
with_pair_absent r pair [] none = refl
with_pair_absent r pair (x ∷ xs) none = rw (none.0, with_pair_absent r pair xs none.1)

pub runs_absent : (r : ℕ) (xs : List Started) → Absent r xs → filter (is_run r) xs ≡ []
runs_absent r [] none = refl
runs_absent r (x ∷ xs) none = rw (none.0, runs_absent r xs none.1)

-- a run is the one of its number
pub itself : (run : Started) → is_run run.0 run ≡ true
itself run = grind (arith, nat_tests)
