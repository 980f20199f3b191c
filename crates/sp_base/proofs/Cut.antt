-- The numbers of a rising list between two places.
use Rattle.std.proofs.Common.{◌≡◌, ℕ, ◌+◌, ◌<◌, ◌≤◌, true, false, List, [], ◌∷◌, ◌++◌, take, drop, refl, sym, ap, ◌∙◌, arith}
use Rattle.std.specs.List.{All, AllByRecursion, filter}
use Rattle.std.proofs.lemmas.List.{take-append-drop, append-nil}
use Rattle.std.proofs.lemmas.List.Elements.{recursion_from_All, All-from_recursion, All-take, filter-append}
use Rattle.std.proofs.lemmas.Bool.Decides.{nat_tests}
use Rattle.sp_base.specs.Numbers.{is_within}
use Rattle.sp_base.specs.Place.{IsPlace}
use Rattle.sp_base.proofs.Rising.{Below}

too_low : (first count : ℕ) (ns : List ℕ) → Below first ns → filter (is_within first count) ns ≡ []
too_low first count [] h = refl
too_low first count (n ∷ ns) h =
    let low : n < first = h.0 in
    let rest = too_low first count ns h.1 in
    let test : is_within first count n ≡ false = grind (arith, nat_tests) in
    rw test rest

too_high : (first count : ℕ) (ns : List ℕ) → AllByRecursion (λ n. first + count ≤ n) ns → filter (is_within first count) ns ≡ []
too_high first count [] h = refl
too_high first count (n ∷ ns) h =
    let high : first + count ≤ n = h.0 in
    let rest = too_high first count ns h.1 in
    let test : is_within first count n ≡ false = grind (arith, nat_tests) in
    rw test rest

all_within : (first count : ℕ) (ns : List ℕ) → AllByRecursion (λ n. first ≤ n) ns → Below (first + count) ns → filter (is_within first count) ns ≡ ns
all_within first count [] h below = refl
all_within first count (n ∷ ns) h below =
    let low : first ≤ n = h.0 in
    let high : n < first + count = below.0 in
    let rest = all_within first count ns h.1 below.1 in
    let test : is_within first count n ≡ true = grind (arith, nat_tests) in
    rw test (ap (λ (l : List ℕ). n ∷ l) rest)

from_first : (first count : ℕ) (ns : List ℕ) (at : ℕ) → IsPlace first ns at → filter (is_within first count) ns ≡ filter (is_within first count) (drop at ns)
from_first first count ns at place =
    let p = is_within first count in
    ap (filter p) (sym (take-append-drop at ns)) ∙ filter-append p (take at ns) (drop at ns)
    ∙ ap (λ l. l ++ filter p (drop at ns)) (too_low first count (take at ns) (recursion_from_All (λ m. m < first) (take at ns) place.below))

front_of : (P : ℕ → Type 0) (k : ℕ) (ns : List ℕ) → AllByRecursion P ns → AllByRecursion P (take k ns)
front_of P k ns h = recursion_from_All P (take k ns) (All-take P k ns (All-from_recursion P ns h))

-- those between the places of `first` and of `first + count`
pub cut_both : (first count : ℕ) (ns : List ℕ) (at end : ℕ) → IsPlace first ns at → IsPlace (first + count) (drop at ns) end → take end (drop at ns) ≡ filter (is_within first count) ns
cut_both first count ns at end place ending =
    let p = is_within first count in
    let rest = drop at ns in
    let above = recursion_from_All (λ m. first ≤ m) rest place.above in
    let middle = all_within first count (take end rest) (front_of (λ m. first ≤ m) end rest above) (recursion_from_All (λ m. m < first + count) (take end rest) ending.below) in
    let behind = too_high first count (drop end rest) (recursion_from_All (λ m. first + count ≤ m) (drop end rest) ending.above) in
    sym (from_first first count ns at place ∙ ap (filter p) (sym (take-append-drop end rest)) ∙ filter-append p (take end rest) (drop end rest)
    ∙ ap (λ l. l ++ filter p (drop end rest)) middle ∙ ap (λ l. take end rest ++ l) behind ∙ append-nil (take end rest))

-- those from the place of `first` on, where all are below the end
pub cut_front : (first count : ℕ) (ns : List ℕ) (at : ℕ) → IsPlace first ns at → All (λ m. m < first + count) (drop at ns) → drop at ns ≡ filter (is_within first count) ns
cut_front first count ns at place small =
    sym (from_first first count ns at place
    ∙ all_within first count (drop at ns) (recursion_from_All (λ m. first ≤ m) (drop at ns) place.above) (recursion_from_All (λ m. m < first + count) (drop at ns) small))
