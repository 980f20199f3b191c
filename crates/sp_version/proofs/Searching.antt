-- The search for the least number of a part of a rising list that is not skipped.
use Rattle.std.proofs.Common.{◌≡◌, ℕ, zero, suc, ◌+◌, ◌-◌, ◌<◌, ◌≤◌, ◌⊎◌, Bool, true, false, not, ◌&&◌, ◌||◌, ◌==◌, List, [], ◌∷◌, length, get_or, take, drop, Some, None, refl, sym, ◌∙◌, ap, subst, arith, inl, inr}
use Rattle.std.specs.Prelude.{nat_le, nat_lt, if◌then◌else◌}
use Rattle.std.specs.List.Sorted.{IsStrictlyIncreasing}
use Rattle.std.proofs.lemmas.List.{get_or-take, get_or-drop, length-take, length-drop}
use Rattle.std.proofs.lemmas.List.Elements.{All-get_or}
use Rattle.std.proofs.lemmas.List.Folds.{list_any_at}
use Rattle.std.proofs.lemmas.Bool.{cases_eq, cases_lt, eq-eqb, ne_eqb}
use Rattle.std.proofs.lemmas.Bool.Decides.{nat_tests}
use Rattle.sp_base.specs.Numbers.{is_among}
use Rattle.sp_base.specs.Place.{IsPlace}
use Rattle.sp_base.proofs.Placed.{earlier}
use Rattle.sp_group.specs.Rising.{least}

-- none passes
pub least_none : (test : ℕ → Bool) (first n : ℕ) → ((i : ℕ) → first ≤ i → i < first + n → test i ≡ false) → least test first n ≡ None
least_none test first zero fail = refl
least_none test first (suc n) fail =
    let here : test first ≡ false = fail first (omega arith) (omega arith) in
    ap (λ (b : Bool). if b then Some first else least test (first + 1) n) here
    ∙ least_none test (first + 1) n (λ i low high. fail i (omega arith) (omega arith))

-- one passes, and none below it
pub least_some : (test : ℕ → Bool) (first n m : ℕ) → test m ≡ true → first ≤ m → m < first + n → ((i : ℕ) → first ≤ i → i < m → test i ≡ false) → least test first n ≡ Some m
least_some test first zero m pass low high fail = absurd (omega arith)
least_some test first (suc n) m pass low high fail =
    elim (cases_eq first m) [
      | inl e ↦ ap (λ (b : Bool). if b then Some first else least test (first + 1) n) (ap test e ∙ pass) ∙ ap (λ (k : ℕ). Some k) e
      | inr e ↦
          (let here : test first ≡ false = fail first (omega arith) (omega arith) in
          ap (λ (b : Bool). if b then Some first else least test (first + 1) n) here
          ∙ least_some test (first + 1) n m pass (omega arith) (omega arith) (λ i more less. fail i (omega arith) less))
    ]

-- what is among numbers stands at a place
place_of : (ns : List ℕ) (i : ℕ) → is_among ns i ≡ true → (k : ℕ) × (k < length ns) × (get_or ns k 0 ≡ i)
place_of [] i h = absurd (cc h)
place_of (n ∷ ns) i h =
    elim (cases_eq n i) [
      | inl e ↦ (0, omega arith, e)
      | inr e ↦
          (let rest = place_of ns i (ap (λ (b : Bool). b || is_among ns i) (sym (ne_eqb n i e)) ∙ h) in
          let within : rest.0 < length ns = rest.1 in
          (suc rest.0, omega arith, rest.2))
    ]

among_at : (ns : List ℕ) (k : ℕ) → k < length ns → is_among ns (get_or ns k 0) ≡ true
among_at ns k within = list_any_at (λ m. m == get_or ns k 0) ns k 0 within (eq-eqb _ _ refl)

-- the test of the search
abbrev pub test : List ℕ → ℕ → ℕ → List ℕ → ℕ → Bool
test list first count skipped i = is_among list i && (nat_le first i && nat_lt i (first + count) && not (is_among skipped i))

fails : (a b c d : Bool) → (a ≡ true → d ≡ true) → (a && (b && c && not d)) ≡ false
fails false b c d h = refl
fails true false c d h = refl
fails true true false d h = refl
fails true true true true h = refl
fails true true true false h = absurd (cc (h refl))

passes : (list : List ℕ) (first count m : ℕ) (skipped : List ℕ) → is_among list m ≡ true → first ≤ m → m < first + count → is_among skipped m ≡ false → test list first count skipped m ≡ true
passes list first count m skipped among low high kept = grind (arith, nat_tests)

-- The numbers in front of the place are below the first or skipped, and the others are not below the first.
pub record Passed (list : List ℕ) (first : ℕ) (skipped : List ℕ) (at : ℕ) : Type 0 where
  pub within : at ≤ length list
  pub behind : (k : ℕ) → k < at → (get_or list k 0 < first) ⊎ (is_among skipped (get_or list k 0) ≡ true)
  pub ahead : (k : ℕ) → at ≤ k → k < length list → first ≤ get_or list k 0

pub passed_first : (list : List ℕ) (first : ℕ) (skipped : List ℕ) (at : ℕ) → IsPlace first list at → Passed list first skipped at
passed_first list first skipped at place = record {
  within = place.within;
  behind = λ k less.
      let size = length-take at list in
      let within = place.within in
      inl (subst (λ m. m < first) (get_or-take at list k 0 less) (All-get_or (λ m. m < first) (take at list) k 0 (omega arith) place.below));
  ahead = λ k low high.
      let size = length-drop at list in
      let here : at + (k - at) ≡ k = omega arith in
      subst (λ m. first ≤ get_or list m 0) here
      (subst (λ m. first ≤ m) (get_or-drop at list (k - at) 0) (All-get_or (λ m. first ≤ m) (drop at list) (k - at) 0 (omega arith) place.above));
}

-- one number more is skipped
pub passed_more : (list : List ℕ) (first : ℕ) (skipped : List ℕ) (at : ℕ) → Passed list first skipped at → at < length list → is_among skipped (get_or list at 0) ≡ true → Passed list first skipped (at + 1)
passed_more list first skipped at passed within skip = record {
  within = omega arith;
  behind = λ k less.
      elim (cases_eq k at) [
        | inl e ↦ inr (subst (λ j. is_among skipped (get_or list j 0) ≡ true) (sym e) skip)
        | inr e ↦ passed.behind k (omega arith)
      ];
  ahead = λ k low high. passed.ahead k (omega arith) high;
}

-- a number from the first on that stands in front of the place is skipped
skipped_behind : (list : List ℕ) (first : ℕ) (skipped : List ℕ) (at k i : ℕ) → Passed list first skipped at → first ≤ i → k < at → get_or list k 0 ≡ i → is_among skipped i ≡ true
skipped_behind list first skipped at k i passed low less is =
    elim (passed.behind k less) [
      | inl below ↦ absurd (omega arith)
      | inr skip ↦ subst (λ m. is_among skipped m ≡ true) is skip
    ]

-- numbers below that at the place stand in front of it
in_front : (list : List ℕ) → IsStrictlyIncreasing list → (at k : ℕ) → at < length list → k < length list → get_or list k 0 < get_or list at 0 → k < at
in_front list rising at k within inside less =
    elim (cases_lt k at) [
      | inl h ↦ h
      | inr h ↦ elim (cases_eq at k) [
        | inl e ↦ absurd (let same = ap (λ j. get_or list j 0) e in omega arith)
        | inr e ↦ absurd (let more : get_or list at 0 < get_or list k 0 = earlier list rising at k (omega arith) inside in omega arith)
      ]
    ]

-- the number at the place is the least that passes
pub found : (list : List ℕ) (first count : ℕ) (skipped : List ℕ) (at : ℕ) → IsStrictlyIncreasing list → Passed list first skipped at → at < length list
    → get_or list at 0 - first < count → is_among skipped (get_or list at 0) ≡ false → least (test list first count skipped) first count ≡ Some (get_or list at 0)
found list first count skipped at rising passed within near kept =
    let m = get_or list at 0 in
    let low : first ≤ m = passed.ahead at (omega arith) within in
    least_some (test list first count skipped) first count m (passes list first count m skipped (among_at list at within) low (omega arith) kept) low (omega arith)
    (λ i from less. fails (is_among list i) (nat_le first i) (nat_lt i (first + count)) (is_among skipped i) (λ among.
    let place = place_of list i among in
    let is : get_or list place.0 0 ≡ i = place.2 in
    skipped_behind list first skipped at place.0 i passed from (in_front list rising at place.0 within place.1 (omega arith)) is))

-- none passes where the place is at the end, or its number too great
pub found_none : (list : List ℕ) (first count : ℕ) (skipped : List ℕ) (at : ℕ) → IsStrictlyIncreasing list → Passed list first skipped at
    → (length list ≤ at) ⊎ ((at < length list) × (count ≤ get_or list at 0 - first)) → least (test list first count skipped) first count ≡ None
found_none list first count skipped at rising passed over =
    least_none (test list first count skipped) first count (λ i from less. fails (is_among list i) (nat_le first i) (nat_lt i (first + count)) (is_among skipped i) (λ among.
    let place = place_of list i among in
    let is : get_or list place.0 0 ≡ i = place.2 in
    let inside : place.0 < length list = place.1 in
    let front : place.0 < at = elim over [
      | inl h ↦ omega arith
      | inr h ↦ (let low : first ≤ get_or list at 0 = passed.ahead at (omega arith) h.0 in
          let far : count ≤ get_or list at 0 - first = h.1 in
          in_front list rising at place.0 h.0 inside (omega arith))
    ] in
    skipped_behind list first skipped at place.0 i passed from front is))
