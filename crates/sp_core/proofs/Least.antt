-- The least number that passes one of two tests is the lesser of those that pass each.
use Rattle.std.proofs.Common.{◌≡◌, ℕ, zero, suc, ◌+◌, ◌<◌, ◌≤◌, ◌≢◌, ◌⊎◌, inl, inr, subst, Bool, true, false, cond, not, ◌&&◌, ◌||◌, List, Option, Some, None, min, refl, sym, ap, ◌∙◌, arith}
use Rattle.std.specs.Prelude.{nat_le, nat_lt}
use Rattle.std.proofs.lemmas.Bool.{cases_eq, cases_lt}
use Rattle.std.proofs.lemmas.Option.{same_Some}
use Rattle.sp_base.specs.Numbers.{is_among}
use Rattle.sp_group.specs.Rising.{least}
use Rattle.sp_core.specs.Withheld.{lesser}

-- tests that agree within the range have the same least number
pub least_alike : (p t : ℕ → Bool) (first n : ℕ) → ((i : ℕ) → first ≤ i → i < first + n → p i ≡ t i) → least p first n ≡ least t first n
least_alike p t first zero same = refl
least_alike p t first (suc n) same =
    ap (λ (b : Bool). cond b (Some first) (least p (first + 1) n)) (same first (omega arith) (omega arith))
    ∙ ap (λ (o : Option ℕ). cond (t first) (Some first) o) (least_alike p t (first + 1) n (λ i low high. same i (omega arith) (omega arith)))

-- no number passes
pub least_nothing : (p : ℕ → Bool) (first n : ℕ) → ((i : ℕ) → first ≤ i → i < first + n → p i ≡ false) → least p first n ≡ None
least_nothing p first zero fails = refl
least_nothing p first (suc n) fails =
    ap (λ (b : Bool). cond b (Some first) (least p (first + 1) n)) (fails first (omega arith) (omega arith))
    ∙ least_nothing p (first + 1) n (λ i low high. fails i (omega arith) (omega arith))

-- the least number is not below the first
pub least_from : (p : ℕ → Bool) (first n m : ℕ) → least p first n ≡ Some m → first ≤ m
least_from p first zero m is = absurd (cc is)
least_from p first (suc n) m is = one (p first) is (least_from p (first + 1) n m)
  where
    one : (b : Bool) → cond b (Some first) (least p (first + 1) n) ≡ Some m → (least p (first + 1) n ≡ Some m → first + 1 ≤ m) → first ≤ m
    one true is rest = let e : first ≡ m = cc is in omega arith
    one false is rest = let low = rest is in omega arith

-- a number stands before all that are not below it
pub lesser_before : (n : ℕ) (o : Option ℕ) → ((m : ℕ) → o ≡ Some m → n ≤ m) → lesser (Some n) o ≡ Some n
lesser_before n None low = refl
lesser_before n (Some m) low = let h = low m refl in let e : min n m ≡ n = omega arith in ap (λ k. Some k) e

pub lesser_behind : (n : ℕ) (o : Option ℕ) → ((m : ℕ) → o ≡ Some m → n ≤ m) → lesser o (Some n) ≡ Some n
lesser_behind n None low = refl
lesser_behind n (Some m) low = let h = low m refl in let e : min m n ≡ n = omega arith in ap (λ k. Some k) e

pub lesser_none : (o : Option ℕ) → lesser o None ≡ o
lesser_none None = refl
lesser_none (Some n) = refl

-- the lesser is taken in any order
pub lesser_swaps : (a b : Option ℕ) → lesser a b ≡ lesser b a
lesser_swaps None b = sym (lesser_none b)
lesser_swaps (Some n) None = refl
lesser_swaps (Some n) (Some m) = let e : min n m ≡ min m n = omega arith in ap (λ k. Some k) e

pub lesser_joins : (a b c : Option ℕ) → lesser (lesser a b) c ≡ lesser a (lesser b c)
lesser_joins None b c = refl
lesser_joins (Some n) None c = refl
lesser_joins (Some n) (Some m) None = refl
lesser_joins (Some n) (Some m) (Some k) = let e : min (min n m) k ≡ min n (min m k) = omega arith in ap (λ j. Some j) e

-- one of two tests
pub least_either : (p t : ℕ → Bool) (first n : ℕ) → lesser (least p first n) (least t first n) ≡ least (λ i. p i || t i) first n
least_either p t first zero = refl
least_either p t first (suc n) =
    one (p first) (t first) (least_either p t (first + 1) n) (λ m is. let low = least_from p (first + 1) n m is in omega arith)
    (λ m is. let low = least_from t (first + 1) n m is in omega arith)
  where
    one : (a b : Bool) → lesser (least p (first + 1) n) (least t (first + 1) n) ≡ least (λ i. p i || t i) (first + 1) n
        → ((m : ℕ) → least p (first + 1) n ≡ Some m → first ≤ m) → ((m : ℕ) → least t (first + 1) n ≡ Some m → first ≤ m)
        → lesser (cond a (Some first) (least p (first + 1) n)) (cond b (Some first) (least t (first + 1) n)) ≡ cond (a || b) (Some first) (least (λ i. p i || t i) (first + 1) n)
    one true true rest low high = let e : min first first ≡ first = omega arith in ap (λ k. Some k) e
    one true false rest low high = lesser_before first (least t (first + 1) n) high
    one false true rest low high = lesser_behind first (least p (first + 1) n) low
    one false false rest low high = rest

-- a test of numbers within a range that are not among others
abbrev pub unskipped : (ℕ → Bool) → ℕ → ℕ → List ℕ → ℕ → Bool
unskipped p first count skipped i = p i && (nat_le first i && nat_lt i (first + count) && not (is_among skipped i))

-- the least such number
abbrev pub least_unskipped : (ℕ → Bool) → ℕ → ℕ → List ℕ → Option ℕ
least_unskipped p first count skipped = least (unskipped p first count skipped) first count

either_and : (a b c : Bool) → ((a && c) || (b && c)) ≡ ((a || b) && c)
either_and true true true = refl
either_and true true false = refl
either_and true false true = refl
either_and true false false = refl
either_and false b c = refl

-- one of two tests, within a range
pub unskipped_either : (p t : ℕ → Bool) (first count : ℕ) (skipped : List ℕ)
    → lesser (least_unskipped p first count skipped) (least_unskipped t first count skipped) ≡ least_unskipped (λ i. p i || t i) first count skipped
unskipped_either p t first count skipped =
    least_either (unskipped p first count skipped) (unskipped t first count skipped) first count
    ∙ least_alike (λ i. unskipped p first count skipped i || unskipped t first count skipped i) (unskipped (λ i. p i || t i) first count skipped) first count
    (λ i low high. either_and (p i) (t i) (nat_le first i && nat_lt i (first + count) && not (is_among skipped i)))

-- tests that agree
pub unskipped_alike : (p t : ℕ → Bool) (first count : ℕ) (skipped : List ℕ) → ((i : ℕ) → p i ≡ t i) → least_unskipped p first count skipped ≡ least_unskipped t first count skipped
unskipped_alike p t first count skipped same =
    least_alike (unskipped p first count skipped) (unskipped t first count skipped) first count
    (λ i low high. ap (λ (b : Bool). b && (nat_le first i && nat_lt i (first + count) && not (is_among skipped i))) (same i))

-- the least number is within the range, and passes
pub least_below : (p : ℕ → Bool) (first n m : ℕ) → least p first n ≡ Some m → m < first + n
least_below p first zero m is = absurd (cc is)
least_below p first (suc n) m is = one (p first) is (least_below p (first + 1) n m)
  where
    one : (b : Bool) → cond b (Some first) (least p (first + 1) n) ≡ Some m → (least p (first + 1) n ≡ Some m → m < first + 1 + n) → m < first + suc n
    one true is rest = let e : first ≡ m = same_Some first m is in omega arith
    one false is rest = let low = rest is in omega arith

pub least_passes : (p : ℕ → Bool) (first n m : ℕ) → least p first n ≡ Some m → p m ≡ true
least_passes p first zero m is = absurd (cc is)
least_passes p first (suc n) m is = one (p first) refl is (least_passes p (first + 1) n m)
  where
    one : (b : Bool) → p first ≡ b → cond b (Some first) (least p (first + 1) n) ≡ Some m → (least p (first + 1) n ≡ Some m → p m ≡ true) → p m ≡ true
    one true pass is rest = ap p (sym (same_Some first m is)) ∙ pass
    one false fail is rest = rest is

-- numbers of a range that do not pass can be left out at both ends
pub least_within : (p : ℕ → Bool) (first n from count : ℕ) → first ≤ from → from + count ≤ first + n → ((i : ℕ) → first ≤ i → i < from → p i ≡ false)
    → ((i : ℕ) → from + count ≤ i → p i ≡ false) → least p first n ≡ least p from count
least_within p first zero from zero low high front back = refl
least_within p first zero from (suc count) low high front back = absurd (omega arith)
least_within p first (suc n) from zero low high front back = least_nothing p first (suc n) (λ i more less. fails i more (cases_lt i from))
  where
    fails : (i : ℕ) → first ≤ i → (i < from) ⊎ (from ≤ i) → p i ≡ false
    fails i more (inl less) = front i more less
    fails i more (inr past) = back i (omega arith)
least_within p first (suc n) from (suc count) low high front back =
    one (cases_eq first from)
    (λ same. least_within p (first + 1) n (first + 1) count (omega arith) (omega arith) (λ i more less. absurd (omega arith)) (λ i past. back i (omega arith)))
    (λ other. least_within p (first + 1) n from (suc count) (omega arith) (omega arith) (λ i more less. front i (omega arith) less) back)
  where
    one : (first ≡ from) ⊎ (first ≢ from) → (first ≡ from → least p (first + 1) n ≡ least p (first + 1) count)
        → (first ≢ from → least p (first + 1) n ≡ least p from (suc count)) → least p first (suc n) ≡ least p from (suc count)
    one (inl same) here rest =
        subst (λ (k : ℕ). least p first (suc n) ≡ least p k (suc count)) same (ap (λ (o : Option ℕ). cond (p first) (Some first) o) (here same))
    one (inr other) here rest = ap (λ (b : Bool). cond b (Some first) (least p (first + 1) n)) (front first (omega arith) (omega arith)) ∙ rest other
