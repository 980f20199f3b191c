-- Labels: rising lists of runs, none of them 0.
use Rattle.std.proofs.Common.{◌≡◌, ◌≢◌, ℕ, Bool, true, false, cond, ◌||◌, ◌==◌, nat_lt, List, [], ◌∷◌, refl, sym, ap, ◌∙◌, eq-eqb, arith}
use Rattle.std.specs.List.{All, AllByRecursion}
use Rattle.std.proofs.lemmas.Bool.{false≢true}
use Rattle.std.proofs.lemmas.Bool.Decides.{nat_tests}
use Rattle.std.proofs.lemmas.List.Elements.{recursion_from_All, All-from_recursion}
use Rattle.sp_base.specs.Numbers.{is_among, with_number}

abbrev IsGiven : ℕ → Type 0
IsGiven r = r ≢ 0

pub none_zero : (ns : List ℕ) → is_among ns 0 ≡ false → All (λ r. r ≢ 0) ns
none_zero ns h = All-from_recursion IsGiven ns (each ns h)
  where
    later : (a b : Bool) → (a || b) ≡ false → b ≡ false
    later true b e = absurd (false≢true (sym e))
    later false b e = e

    each : (ns : List ℕ) → is_among ns 0 ≡ false → AllByRecursion IsGiven ns
    each [] h = tt
    each (n ∷ ns) h = ((λ e. false≢true (sym h ∙ ap (λ b. b || is_among ns 0) (eq-eqb n 0 e))), each ns (later (n == 0) (is_among ns 0) h))

pub no_zero : (ns : List ℕ) → All (λ r. r ≢ 0) ns → is_among ns 0 ≡ false
no_zero ns h = none ns (recursion_from_All IsGiven ns h)
  where
    none : (ns : List ℕ) → AllByRecursion IsGiven ns → is_among ns 0 ≡ false
    none [] z = refl
    none (n ∷ ns) z =
        let first : n ≢ 0 = z.0 in
        let rest : is_among ns 0 ≡ false = none ns z.1 in
        grind (arith, nat_tests)

-- none is 0 with a number more that isn't
pub given_with : (ns : List ℕ) (n : ℕ) → All (λ r. r ≢ 0) ns → n ≢ 0 → All (λ r. r ≢ 0) (with_number ns n)
given_with ns n h given = All-from_recursion IsGiven (with_number ns n) (put ns (recursion_from_All IsGiven ns h))
  where
    one : (b c : Bool) (m : ℕ) (ms : List ℕ) → AllByRecursion IsGiven (m ∷ ms) → AllByRecursion IsGiven (with_number ms n)
        → AllByRecursion IsGiven (cond b (n ∷ m ∷ ms) (cond c (m ∷ ms) (m ∷ with_number ms n)))
    one true c m ms z rest = (given, z)
    one false true m ms z rest = z
    one false false m ms z rest = (z.0, rest)

    put : (ns : List ℕ) → AllByRecursion IsGiven ns → AllByRecursion IsGiven (with_number ns n)
    put [] z = (given, tt)
    put (m ∷ ms) z = one (nat_lt n m) (m == n) m ms z (put ms z.1)
