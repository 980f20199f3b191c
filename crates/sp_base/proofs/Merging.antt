-- Two rising lists on the way into one.
use Rattle.std.proofs.Common.{◌≡◌, ℕ, ◌+◌, ◌<◌, ◌≤◌, ◌⊎◌, Bool, true, false, ◌||◌, ◌==◌, List, [], ◌∷◌, ◌++◌, length, get_or, drop, refl, sym, ap, subst, ◌∙◌, arith, inl, inr}
use Rattle.std.specs.Prelude.{cond, min}
use Rattle.std.specs.List.Sorted.{IsStrictlyIncreasing}
use Rattle.std.proofs.lemmas.List.{drop_more, drop_all, append-nil, append_assoc}
use Rattle.std.proofs.lemmas.Bool.{cases_eq, cases_lt, eq-eqb, ne_eqb}
use Rattle.std.proofs.lemmas.Bool.Decides.{nat_tests}
use Rattle.sp_base.specs.Numbers.{is_among}
use Rattle.sp_base.specs.Merged.{IsMerged}
use Rattle.sp_base.proofs.Rising.{Below, Rises, above_lower, rising_from, rises_from, rises_behind, rises_inserted, below_next, has_append}

-- What the list has so far goes on rising with what is left of either, and nothing is lost.
pub record Merging (ones others list : List ℕ) (one other : ℕ) : Type 0 where
  pub one_within : one ≤ length ones
  pub other_within : other ≤ length others
  pub first : Rises (list ++ drop one ones)
  pub second : Rises (list ++ drop other others)
  pub members : (n : ℕ) → (is_among list n || (is_among (drop one ones) n || is_among (drop other others) n)) ≡ (is_among ones n || is_among others n)

pub begun : (ones others : List ℕ) → IsStrictlyIncreasing ones → IsStrictlyIncreasing others → Merging ones others [] 0 0
begun ones others rising other_rising = record {
  one_within = omega arith;
  other_within = omega arith;
  first = rises_from ones rising;
  second = rises_from others other_rising;
  members = λ n. refl;
}

-- the place behind this one where n stands here
abbrev pub passed : List ℕ → ℕ → ℕ → ℕ
passed ns at n = cond (get_or ns at 0 == n) (at + 1) at

rises_pushed : (list ms : List ℕ) (n m : ℕ) → n ≤ m → Below n list → Rises (list ++ m ∷ ms) → Rises (list ++ n ∷ cond (m == n) ms (m ∷ ms))
rises_pushed list ms n m h below rises =
    elim (cases_eq m n) [
      | inl e ↦ rw (eq-eqb m n e) (subst (λ k. Rises (list ++ k ∷ ms)) e rises)
      | inr e ↦ rw (ne_eqb m n e) (
          let more : n < m = omega arith in
          let behind : Rises (m ∷ ms) = rises_behind list (m ∷ ms) rises in
          rises_inserted list (m ∷ ms) n rises below (more, above_lower n m ms more behind.0))
    ]

-- what is left behind n
left_behind : (ns : List ℕ) (at n : ℕ) → at < length ns → drop (passed ns at n) ns ≡ cond (get_or ns at 0 == n) (drop (at + 1) ns) (get_or ns at 0 ∷ drop (at + 1) ns)
left_behind ns at n within =
    elim (cases_eq (get_or ns at 0) n) [
      | inl e ↦ rw (eq-eqb (get_or ns at 0) n e)
      | inr e ↦ rw (ne_eqb (get_or ns at 0) n e) (drop_more ns at 0 within)
    ]

passed_rises : (list ns : List ℕ) (at n : ℕ) → at < length ns → n ≤ get_or ns at 0 → Below n list → Rises (list ++ drop at ns) → Rises ((list ++ n ∷ []) ++ drop (passed ns at n) ns)
passed_rises list ns at n within least below rises =
    let split : drop at ns ≡ get_or ns at 0 ∷ drop (at + 1) ns = drop_more ns at 0 within in
    let pushed = rises_pushed list (drop (at + 1) ns) n (get_or ns at 0) least below (subst (λ l. Rises (list ++ l)) split rises) in
    subst Rises (sym (append_assoc list (n ∷ []) (drop (passed ns at n) ns)))
    (subst (λ l. Rises (list ++ n ∷ l)) (sym (left_behind ns at n within)) pushed)

twice : (a b : Bool) → (a || b) ≡ (a || (a || b))
twice true b = refl
twice false b = refl

left_members : (m n k : ℕ) (ms : List ℕ) → (n == k || is_among (cond (m == n) ms (m ∷ ms)) k) ≡ (n == k || is_among (m ∷ ms) k)
left_members m n k ms =
    elim (cases_eq m n) [
      | inl e ↦ rw (eq-eqb m n e) (subst (λ j. (n == k || is_among ms k) ≡ (n == k || (j == k || is_among ms k))) (sym e) (twice (n == k) (is_among ms k)))
      | inr e ↦ rw (ne_eqb m n e)
    ]

passed_members : (ns : List ℕ) (at n k : ℕ) → at < length ns → (n == k || is_among (drop (passed ns at n) ns) k) ≡ (n == k || is_among (drop at ns) k)
passed_members ns at n k within =
    ap (λ l. n == k || is_among l k) (left_behind ns at n within)
    ∙ left_members (get_or ns at 0) n k (drop (at + 1) ns)
    ∙ ap (λ l. n == k || is_among l k) (sym (drop_more ns at 0 within))

-- a number that goes from one of two rests to the list
told_once : (l e a b a' b' : Bool) → (e || a') ≡ (e || a) → (e || b') ≡ (e || b) → (e ≡ true → (a || b) ≡ true) → (l || (e || false) || (a' || b')) ≡ (l || (a || b))
told_once true e a b a' b' p q h = refl
told_once false true a b a' b' p q h = sym (h refl)
told_once false false a b a' b' p q h = λ i. p i || q i

stands_at : (ns : List ℕ) (at k : ℕ) → at < length ns → get_or ns at 0 ≡ k → is_among (drop at ns) k ≡ true
stands_at ns at k within e =
    ap (λ l. is_among l k) (drop_more ns at 0 within) ∙ ap (λ t. t || is_among (drop (at + 1) ns) k) (eq-eqb (get_or ns at 0) k e)

in_either : (a b : Bool) → (a ≡ true) ⊎ (b ≡ true) → (a || b) ≡ true
in_either a b (inl h) = ap (λ t. t || b) h
in_either true b (inr h) = refl
in_either false b (inr h) = h

smaller_there : (ones others : List ℕ) (one other n k : ℕ) → one < length ones → other < length others → n ≡ min (get_or ones one 0) (get_or others other 0) → (n == k) ≡ true → (is_among (drop one ones) k || is_among (drop other others) k) ≡ true
smaller_there ones others one other n k within other_within least e =
    let same : n ≡ k = grind (arith, nat_tests) in
    in_either (is_among (drop one ones) k) (is_among (drop other others) k)
    (elim (cases_lt (get_or ones one 0) (get_or others other 0)) [
      | inl h ↦ inl (stands_at ones one k within (omega arith))
      | inr h ↦ inr (stands_at others other k other_within (omega arith))
    ])

below_left : (list ns : List ℕ) (at : ℕ) → at < length ns → Rises (list ++ drop at ns) → Below (get_or ns at 0) list
below_left list ns at within rises =
    below_next list (drop (at + 1) ns) (get_or ns at 0) (subst (λ l. Rises (list ++ l)) (drop_more ns at 0 within) rises)

below_smaller : (ones others list : List ℕ) (one other n : ℕ) → one < length ones → other < length others → n ≡ min (get_or ones one 0) (get_or others other 0) → Merging ones others list one other → Below n list
below_smaller ones others list one other n within other_within least going =
    elim (cases_lt (get_or ones one 0) (get_or others other 0)) [
      | inl h ↦ (let e : get_or ones one 0 ≡ n = omega arith in subst (λ k. Below k list) e (below_left list ones one within going.first))
      | inr h ↦ (let e : get_or others other 0 ≡ n = omega arith in subst (λ k. Below k list) e (below_left list others other other_within going.second))
    ]

passed_within : (ns : List ℕ) (at n : ℕ) → at < length ns → passed ns at n ≤ length ns
passed_within ns at n within = grind (arith, nat_tests)

-- the smaller of the two next numbers is taken
pub taken : (ones others list : List ℕ) (one other n : ℕ) → one < length ones → other < length others → n ≡ min (get_or ones one 0) (get_or others other 0) → Merging ones others list one other → Merging ones others (list ++ n ∷ []) (passed ones one n) (passed others other n)
taken ones others list one other n within other_within least going =
    let below = below_smaller ones others list one other n within other_within least going in
    record {
      one_within = passed_within ones one n within;
      other_within = passed_within others other n other_within;
      first = passed_rises list ones one n within (omega arith) below going.first;
      second = passed_rises list others other n other_within (omega arith) below going.second;
      members = λ k.
          ap (λ t. t || (is_among (drop (passed ones one n) ones) k || is_among (drop (passed others other n) others) k)) (has_append list (n ∷ []) k)
          ∙ told_once (is_among list k) (n == k) (is_among (drop one ones) k) (is_among (drop other others) k) (is_among (drop (passed ones one n) ones) k) (is_among (drop (passed others other n) others) k)
          (passed_members ones one n k within) (passed_members others other n k other_within)
          (smaller_there ones others one other n k within other_within least)
          ∙ going.members k;
    }

both_rise : (list xs ys : List ℕ) → (xs ≡ []) ⊎ (ys ≡ []) → Rises (list ++ xs) → Rises (list ++ ys) → Rises (list ++ xs ++ ys)
both_rise list xs ys (inl e) first second =
    subst (λ l. Rises (list ++ l ++ ys)) (sym e) (subst (λ l. Rises (l ++ ys)) (sym (append-nil list)) second)
both_rise list xs ys (inr e) first second =
    subst (λ l. Rises (list ++ xs ++ l)) (sym e) (subst Rises (sym (append-nil (list ++ xs))) first)

or_assoc : (a b c : Bool) → (a || b || c) ≡ (a || (b || c))
or_assoc true b c = refl
or_assoc false b c = refl

none_left : (ones others : List ℕ) (one other : ℕ) → (length ones ≤ one) ⊎ (length others ≤ other) → (drop one ones ≡ []) ⊎ (drop other others ≡ [])
none_left ones others one other (inl h) = inl (drop_all one ones h)
none_left ones others one other (inr h) = inr (drop_all other others h)

-- where nothing is left of one, the rest of the other goes behind
pub ended : (ones others list : List ℕ) (one other : ℕ) → (length ones ≤ one) ⊎ (length others ≤ other) → Merging ones others list one other → IsMerged ones others (list ++ drop one ones ++ drop other others)
ended ones others list one other over going = record {
  rising = rising_from (list ++ drop one ones ++ drop other others)
      (both_rise list (drop one ones) (drop other others) (none_left ones others one other over) going.first going.second);
  members = λ n.
      has_append (list ++ drop one ones) (drop other others) n
      ∙ ap (λ t. t || is_among (drop other others) n) (has_append list (drop one ones) n)
      ∙ or_assoc (is_among list n) (is_among (drop one ones) n) (is_among (drop other others) n) ∙ going.members n;
}

pub renamed : (ones others list list' : List ℕ) (one one' other other' : ℕ) → list' ≡ list → one' ≡ one → other' ≡ other → Merging ones others list one other → Merging ones others list' one' other'
renamed ones others list list' one one' other other' e f g going =
    subst (λ l. Merging ones others l one' other') (sym e)
    (subst (λ k. Merging ones others list k other') (sym f) (subst (λ k. Merging ones others list one k) (sym g) going))
