-- What the moves lead to by which a run takes a pair.
use Rattle.std.proofs.Common.{◌≡◌, ℕ, ◌<◌, Bool, true, false, cond, not, List, [], ◌∷◌, ◌++◌, map, refl, sym, ap, ◌∙◌, append_assoc, arith}
use Rattle.std.specs.List.{filter}
use Rattle.std.proofs.lemmas.List.Elements.{filter-append}
use Rattle.sp_plan.specs.declared.plan.Plan.{Plan}
use Rattle.sp_plan.specs.Runs.{Pair, Started, State, used, is_complete, holds_one}
use Rattle.sp_plan.specs.Moves.{Completed, without_run, apply_all, abandoned, completing, growing}
use Rattle.sp_match.proofs.RunNumbersRise.{Rising, Absent, rising_join, rising_raise, rising_lower, absent_below, absent_above}
use Rattle.sp_match.proofs.RunInTheMiddle.{without_middle, with_pair_middle, run_middle}

-- the state of these runs
abbrev pub at : List Started → List Started → ℕ → State
at runs matched count = record { open_runs = runs; matched = matched; started = count }

-- whether a run holds none of the numbers
abbrev pub frees : List ℕ → Started → Bool
frees numbers run = not (holds_one numbers run.1)

-- the runs that pass a test are abandoned, and the others stay
pub abandoned_all : (p : Started → Bool) (xs done ms : List Started) (n low top : ℕ) → Rising 0 low done → Rising low top xs
    → apply_all (at (done ++ xs) ms n) (map abandoned (filter p xs)) ≡ at (done ++ filter (λ run. not (p run)) xs) ms n
abandoned_all p [] done ms n low top before up = refl
abandoned_all p (x ∷ xs) done ms n low top before up =
    let above : low < x.0 = up.0 in
    let more : Rising 0 x.0 (done ++ x ∷ []) = rising_join 0 low x.0 done (x ∷ []) before (above, omega arith) in
    let less : Rising 0 x.0 done = rising_raise 0 low x.0 done before (omega arith) in
    let gone = without_middle done x xs (absent_above x.0 0 low done before above) (absent_below x.0 x.0 top xs up.1 (omega arith)) in
    one (p x) gone (abandoned_all p xs done ms n x.0 top less up.1) (abandoned_all p xs (done ++ x ∷ []) ms n x.0 top more up.1)
  where
    one : (b : Bool) → without_run x.0 (done ++ x ∷ xs) ≡ done ++ xs
        → apply_all (at (done ++ xs) ms n) (map abandoned (filter p xs)) ≡ at (done ++ filter (λ run. not (p run)) xs) ms n
        → apply_all (at ((done ++ x ∷ []) ++ xs) ms n) (map abandoned (filter p xs)) ≡ at ((done ++ x ∷ []) ++ filter (λ run. not (p run)) xs) ms n
        → apply_all (at (done ++ x ∷ xs) ms n) (map abandoned (cond b (x ∷ filter p xs) (filter p xs)))
        ≡ at (done ++ cond (not b) (x ∷ filter (λ run. not (p run)) xs) (filter (λ run. not (p run)) xs)) ms n
    one true gone out stays = ap (λ (runs : List Started). apply_all (at runs ms n) (map abandoned (filter p xs))) gone ∙ out
    one false gone out stays =
        ap (λ (runs : List Started). apply_all (at runs ms n) (map abandoned (filter p xs))) (sym (append_assoc done (x ∷ []) xs)) ∙ stays
        ∙ ap (λ (runs : List Started). at runs ms n) (append_assoc done (x ∷ []) (filter (λ run. not (p run)) xs))

module _ (q : Plan) (xs ys ms : List Started) (n low top : ℕ) (run : Started) (pair : Pair) (before : Rising 0 low xs) (above : low < run.0) (behind : Rising run.0 top ys) where
  abbrev more : Started
  more = (run.0, run.1 ++ pair ∷ [])

  absent_front : Absent run.0 xs
  absent_front = absent_above run.0 0 low xs before above

  absent_back : Absent run.0 ys
  absent_back = absent_below run.0 run.0 top ys behind (omega arith)

  rising_all : Rising 0 top (xs ++ ys)
  rising_all = rising_join 0 low top xs ys before (rising_lower low run.0 top ys (omega arith) behind)

  -- the run leaves, and those that hold a number which it used
  completes : (gone : List Started) → gone ≡ xs ++ ys
      → apply_all (at (xs ++ more ∷ ys) ms n) (Completed run.0 ∷ map abandoned (filter (λ other. holds_one (used q more.1) other.1) gone))
      ≡ at (filter (frees (used q more.1)) xs ++ filter (frees (used q more.1)) ys) (ms ++ more ∷ []) n
  completes gone is =
      let left : List Started = filter (λ other. holds_one (used q more.1) other.1) gone in
      let runs = without_middle xs more ys absent_front absent_back in
      let matched = run_middle xs more ys absent_front absent_back in
      (λ i. apply_all (at (runs i) (ms ++ matched i) n) (map abandoned left))
      ∙ ap (λ (z : List Started). apply_all (at (xs ++ ys) (ms ++ more ∷ []) n) (map abandoned (filter (λ other. holds_one (used q more.1) other.1) z))) is
      ∙ abandoned_all (λ other. holds_one (used q more.1) other.1) (xs ++ ys) [] (ms ++ more ∷ []) n 0 top (omega arith) rising_all
      ∙ ap (λ (z : List Started). at z (ms ++ more ∷ []) n) (filter-append (frees (used q more.1)) xs ys)

  -- a run that takes a pair is complete then, or stays with it
  pub grown_to : apply_all (at (xs ++ run ∷ ys) ms n) (growing q (xs ++ run ∷ ys) run pair)
      ≡ cond (is_complete q more.1) (at (filter (frees (used q more.1)) xs ++ filter (frees (used q more.1)) ys) (ms ++ more ∷ []) n) (at (xs ++ more ∷ ys) ms n)
  grown_to =
      ap (λ (z : List Started). apply_all (at z ms n) (cond (is_complete q more.1) (completing q (xs ++ run ∷ ys) more) [])) (with_pair_middle pair xs run ys absent_front absent_back)
      ∙ one (is_complete q more.1)
    where
      one : (b : Bool) → apply_all (at (xs ++ more ∷ ys) ms n) (cond b (completing q (xs ++ run ∷ ys) more) [])
          ≡ cond b (at (filter (frees (used q more.1)) xs ++ filter (frees (used q more.1)) ys) (ms ++ more ∷ []) n) (at (xs ++ more ∷ ys) ms n)
      one true = completes (without_run run.0 (xs ++ run ∷ ys)) (without_middle xs run ys absent_front absent_back)
      one false = refl
