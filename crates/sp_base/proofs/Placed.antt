-- What stands at the place of a number, and what a list is with a number put there.
use Rattle.std.proofs.Common.{◌≡◌, ℕ, ◌+◌, ◌-◌, ◌<◌, ◌≤◌, Bool, true, false, ◌||◌, ◌==◌, List, [], ◌∷◌, ◌++◌, length, get_or, take, drop, refl, sym, ap, subst, ◌∙◌, arith, inl, inr}
use Rattle.std.specs.Prelude.{Ok, Err, IsTrue, ◌↔◌, nat_lt as ltb}
use Rattle.std.specs.Ordering.{nat_cmp}
use Rattle.std.specs.List.{All, AllByRecursion, insert}
use Rattle.std.specs.List.Sorted.{IsStrictlyIncreasing, IsBinarySearchResult}
use Rattle.std.proofs.lemmas.List.{get_or-take, get_or-drop, length-take, length-drop, take-append-drop, drop_more, drop_all, append-nil}
use Rattle.std.proofs.lemmas.List.Kept.{AllPairs-from_increasing}
use Rattle.std.proofs.lemmas.List.Sorted.{searched}
use Rattle.std.proofs.lemmas.List.Elements.{All-from_get_or, recursion_from_All, All-drop}
use Rattle.std.proofs.lemmas.Bool.{cases_eq, ltb-true, lt-ltb}
use Rattle.std.proofs.lemmas.Bool.Decides.{nat_tests}
use Rattle.sp_base.specs.Numbers.{is_among}
use Rattle.sp_base.specs.Place.{IsPlace}
use Rattle.sp_base.proofs.Rising.{Above, Below, Rises, above_lower, rises_from, rising_from, not_above, not_below, has_append, rises_inserted, rises_behind}

-- an earlier number is below a later one
pub earlier : (ns : List ℕ) → IsStrictlyIncreasing ns → (i j : ℕ) → i < j → j < length ns → get_or ns i 0 < get_or ns j 0
earlier ns rising i j h within = AllPairs-from_increasing ns rising i j 0 h within

pub place_from : (ns : List ℕ) (n at : ℕ) → at ≤ length ns → ((k : ℕ) → k < at → get_or ns k 0 < n) → ((k : ℕ) → at ≤ k → k < length ns → n ≤ get_or ns k 0) → IsPlace n ns at
place_from ns n at within low high = record {
  within = within;
  below = All-from_get_or (λ m. m < n) (take at ns) 0 (λ k h.
      let size = length-take at ns in
      let before : k < at = omega arith in
      subst (λ m. m < n) (sym (get_or-take at ns k 0 before)) (low k before));
  above = All-from_get_or (λ m. n ≤ m) (drop at ns) 0 (λ k h.
      let size = length-drop at ns in
      subst (λ m. n ≤ m) (sym (get_or-drop at ns k 0)) (high (at + k) (omega arith) (omega arith)));
}

not_falling : (ns : List ℕ) → IsStrictlyIncreasing ns → (i j : ℕ) → i ≤ j → j < length ns → get_or ns i 0 ≤ get_or ns j 0
not_falling ns rising i j h within =
    elim (cases_eq i j) [
      | inl e ↦ subst (λ k. get_or ns i 0 ≤ get_or ns k 0) e (omega arith)
      | inr e ↦ (let more : get_or ns i 0 < get_or ns j 0 = earlier ns rising i j (omega arith) within in omega arith)
    ]

-- where a search by halves ended is the place
pub place_found : (ns : List ℕ) (n at : ℕ) → IsStrictlyIncreasing ns → IsBinarySearchResult (λ m. nat_cmp m n) ns (Ok at) → at < length ns → IsPlace n ns at
place_found ns n at rising search within =
    let found = searched ns n (Ok at) search (not_falling ns rising) in
    let here : get_or ns at 0 ≡ n = found.1 in
    place_from ns n at (omega arith)
    (λ k h. let less : get_or ns k 0 < get_or ns at 0 = earlier ns rising k at h within in omega arith)
    (λ k h inside. let more : get_or ns at 0 ≤ get_or ns k 0 = not_falling ns rising at k h inside in omega arith)

pub place_missed : (ns : List ℕ) (n at : ℕ) → IsStrictlyIncreasing ns → IsBinarySearchResult (λ m. nat_cmp m n) ns (Err at) → IsPlace n ns at
place_missed ns n at rising search =
    let found = searched ns n (Err at) search (not_falling ns rising) in
    place_from ns n at found.0 found.1
    (λ k h inside. let more : n < get_or ns k 0 = found.2 k h inside in omega arith)

-- all are below a number where the last one is
pub all_past : (ns : List ℕ) (n : ℕ) → IsStrictlyIncreasing ns → get_or ns (length ns - 1) 0 < n → All (λ m. m < n) ns
all_past ns n rising h = All-from_get_or (λ m. m < n) ns 0 (λ k within.
    let more : get_or ns k 0 ≤ get_or ns (length ns - 1) 0 = not_falling ns rising k (length ns - 1) (omega arith) (omega arith) in
    omega arith)

pub past_last : (ns : List ℕ) (n last : ℕ) → IsStrictlyIncreasing ns → 0 < length ns → last ≡ get_or ns (length ns - 1) 0 → (IsTrue (ltb last n)) ↔ (All (λ m. m < n) ns)
past_last ns n last rising some is = (
  (λ less. let below : last < n = ltb-true last n less in all_past ns n rising (omega arith)),
  (λ past. let below : get_or ns (length ns - 1) 0 < n = past (length ns - 1) 0 (omega arith) in lt-ltb last n (omega arith)),
)

at_first : (n m : ℕ) (ms : List ℕ) → n ≤ m → Above m ms → (m == n) ≡ is_among (m ∷ ms) n
at_first n m ms h above =
    elim (cases_eq m n) [
      | inl e ↦ grind (arith, nat_tests)
      | inr e ↦ (let rest : is_among ms n ≡ false = not_above n ms (above_lower n m ms (omega arith) above) in grind (arith, nat_tests))
    ]

-- whether a number is there is whether it is behind its place
has_behind : (ns : List ℕ) (n at : ℕ) → IsPlace n ns at → is_among ns n ≡ is_among (drop at ns) n
has_behind ns n at place =
    ap (λ l. is_among l n) (sym (take-append-drop at ns)) ∙ has_append (take at ns) (drop at ns) n
    ∙ ap (λ t. t || is_among (drop at ns) n) (not_below n (take at ns) (recursion_from_All (λ m. m < n) (take at ns) place.below))

rises_drop : (ns : List ℕ) (at : ℕ) → IsStrictlyIncreasing ns → Rises (drop at ns)
rises_drop ns at rising = rises_behind (take at ns) (drop at ns) (subst Rises (sym (take-append-drop at ns)) (rises_from ns rising))

pub has_at : (ns : List ℕ) (n at : ℕ) → IsStrictlyIncreasing ns → IsPlace n ns at → at < length ns → (get_or ns at 0 == n) ≡ is_among ns n
has_at ns n at rising place within =
    let split : drop at ns ≡ get_or ns at 0 ∷ drop (at + 1) ns = drop_more ns at 0 within in
    let above : AllByRecursion (λ m. n ≤ m) (get_or ns at 0 ∷ drop (at + 1) ns) = subst (λ l. AllByRecursion (λ m. n ≤ m) l) split (recursion_from_All (λ m. n ≤ m) (drop at ns) place.above) in
    let rises : Rises (get_or ns at 0 ∷ drop (at + 1) ns) = subst Rises split (rises_drop ns at rising) in
    at_first n (get_or ns at 0) (drop (at + 1) ns) above.0 rises.0
    ∙ ap (λ l. is_among l n) (sym split) ∙ sym (has_behind ns n at place)

pub not_at : (ns : List ℕ) (n at : ℕ) → IsPlace n ns at → length ns ≤ at → false ≡ is_among ns n
not_at ns n at place past = ap (λ l. is_among l n) (sym (drop_all at ns past)) ∙ sym (has_behind ns n at place)

strictly_above : (n : ℕ) (ns : List ℕ) → AllByRecursion (λ m. n ≤ m) ns → is_among ns n ≡ false → Above n ns
strictly_above n [] h none = tt
strictly_above n (m ∷ ms) h none =
    let least : n ≤ m = h.0 in
    let other : m ≡ n → ⊥ = λ e. grind (arith, nat_tests) in
    let rest : is_among ms n ≡ false = grind (arith, nat_tests) in
    (omega arith, strictly_above n ms h.1 rest)

pub rising_inserted : (ns : List ℕ) (n at : ℕ) → IsStrictlyIncreasing ns → IsPlace n ns at → is_among ns n ≡ false → IsStrictlyIncreasing (insert ns at n)
rising_inserted ns n at rising place none =
    rising_from (insert ns at n)
    (rises_inserted (take at ns) (drop at ns) n (subst Rises (sym (take-append-drop at ns)) (rises_from ns rising))
    (recursion_from_All (λ m. m < n) (take at ns) place.below)
    (strictly_above n (drop at ns) (recursion_from_All (λ m. n ≤ m) (drop at ns) place.above) (sym (has_behind ns n at place) ∙ none)))

moved : (a b c : Bool) → (a || (b || c)) ≡ (b || (a || c))
moved true true c = refl
moved true false c = refl
moved false b c = refl

same_test : (m n : ℕ) → (n == m) ≡ (m == n)
same_test m n = grind (arith, nat_tests)

pub has_inserted : (ns : List ℕ) (n at m : ℕ) → is_among (insert ns at n) m ≡ (m == n || is_among ns m)
has_inserted ns n at m =
    has_append (take at ns) (n ∷ drop at ns) m ∙ moved (is_among (take at ns) m) (n == m) (is_among (drop at ns) m)
    ∙ ap (λ t. n == m || t) (sym (has_append (take at ns) (drop at ns) m) ∙ ap (λ l. is_among l m) (take-append-drop at ns))
    ∙ ap (λ t. t || is_among ns m) (same_test m n)

nothing_behind : (n : ℕ) (ns : List ℕ) → AllByRecursion (λ m. n ≤ m) ns → Below n ns → ns ≡ []
nothing_behind n [] h below = refl
nothing_behind n (m ∷ ms) h below =
    let least : n ≤ m = h.0 in
    let most : m < n = below.0 in
    absurd (omega arith)

-- past all others it stands at the end
pub inserted_last : (ns : List ℕ) (n at : ℕ) → IsPlace n ns at → All (λ m. m < n) ns → insert ns at n ≡ ns ++ n ∷ []
inserted_last ns n at place past =
    let none : drop at ns ≡ [] =
    nothing_behind n (drop at ns) (recursion_from_All (λ m. n ≤ m) (drop at ns) place.above)
    (recursion_from_All (λ m. m < n) (drop at ns) (All-drop (λ m. m < n) at ns past)) in
    let whole : take at ns ≡ ns = sym (append-nil (take at ns)) ∙ ap (λ l. take at ns ++ l) (sym none) ∙ take-append-drop at ns in
    ap (λ l. take at ns ++ n ∷ l) none ∙ ap (λ l. l ++ n ∷ []) whole

-- a number past all others isn't there
pub not_there : (ns : List ℕ) (n : ℕ) → All (λ m. m < n) ns → is_among ns n ≡ false
not_there ns n past = not_below n ns (recursion_from_All (λ m. m < n) ns past)

-- a number that is there is not past all others
pub not_past : (ns : List ℕ) (n : ℕ) → is_among ns n ≡ true → All (λ m. m < n) ns → ⊥
not_past ns n there past =
    let none : is_among ns n ≡ false = not_there ns n past in
    cc
