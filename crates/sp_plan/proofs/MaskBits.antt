-- Bits of masks.
use Rattle.std.proofs.Common.{◌≡◌, ℕ, zero, suc, ◌+◌, ◌-◌, ◌*◌, ◌/◌, ◌%◌, ◌<◌, ◌≤◌, ◌^◌, min, max, Bool, true, false, ◌&&◌, ◌||◌, not, eqb, refl, sym, ap, ◌∙◌, inl, inr, arith, w64, bit_and, bit_or}
use mir.Val.{bool_byte}
use Rattle.std.specs.Int.{bit_at, bit_not}
use Rattle.std.proofs.lemmas.Bool.{cases_eq}
use Rattle.std.proofs.lemmas.Bool.Decides.{nat_tests}
use Rattle.std.proofs.lemmas.Nat.Bits.{bit_at_and, bit_at_or, bit_at_not, bit_at-suc, bit_at-zero, bit_at_cat_low, bit_at_lowest, bit_at_ones, bit_at-lt, bit_at_set_same, bit_at_set_other}
use Rattle.sp_plan.specs.Masks.{has}

or_true : (t : Bool) → (t || true) ≡ true
or_true true = refl
or_true false = refl

or_false : (t : Bool) → (t || false) ≡ t
or_false true = refl
or_false false = refl

-- both of two bits, as the lesser one
both : (a b : ℕ) → a < 2 → b < 2 → eqb (min a b) 1 ≡ (eqb a 1 && eqb b 1)
both a b h i = grind (arith, nat_tests)

either : (a b : ℕ) → a < 2 → b < 2 → eqb (max a b) 1 ≡ (eqb a 1 || eqb b 1)
either a b h i = grind (arith, nat_tests)

other : (a : ℕ) → a < 2 → eqb (1 - a) 1 ≡ not (eqb a 1)
other a h = grind (arith, nat_tests)

pub has-and : (a b run : ℕ) → has (bit_and a b) run ≡ (has a run && has b run)
has-and a b run = ap (λ n. eqb n 1) (bit_at_and a b run) ∙ both (bit_at a run) (bit_at b run) (bit_at-lt a run) (bit_at-lt b run)

pub has-or : (a b run : ℕ) → has (bit_or a b) run ≡ (has a run || has b run)
has-or a b run = ap (λ n. eqb n 1) (bit_at_or a b run) ∙ either (bit_at a run) (bit_at b run) (bit_at-lt a run) (bit_at-lt b run)

pub has-not : (a run : ℕ) → a < 2 ^ 64 → run < 64 → has (bit_not w64 a) run ≡ not (has a run)
has-not a run h i = ap (λ n. eqb n 1) (bit_at_not w64 a run h i) ∙ other (bit_at a run) (bit_at-lt a run)

pub has-none : (run : ℕ) → has 0 run ≡ false
has-none run = ap (λ n. eqb n 1) (bit_at-zero run)

pub has-all : (run : ℕ) → run < 64 → has (2 ^ 64 - 1) run ≡ true
has-all run h = ap (λ n. eqb n 1) (bit_at_ones 64 run h)

-- the bit of one run set
bit_set : (mask run : ℕ) → run < 64 → has (bit_or mask (1 * 2 ^ run % 2 ^ 64)) run ≡ true
bit_set mask run h = ap (λ n. eqb n 1) (bit_at_set_same w64 mask run h)

bits_kept : (mask run other : ℕ) → run < 64 → (other ≡ run → ⊥) → has (bit_or mask (1 * 2 ^ run % 2 ^ 64)) other ≡ has mask other
bits_kept mask run other h apart = ap (λ n. eqb n 1) (bit_at_set_other w64 mask run h other apart)

-- the bit of one run set where something is so
none_set : (run other : ℕ) → has (0 * 2 ^ run % 2 ^ 64) other ≡ false
none_set run other = let zero : 0 * 2 ^ run % 2 ^ 64 ≡ 0 = omega arith in rw zero (has-none other)

pub set_same : (mask run : ℕ) (is : Bool) → run < 64 → has (bit_or mask (bool_byte is * 2 ^ run % 2 ^ 64)) run ≡ (has mask run || is)
set_same mask run true h = bit_set mask run h ∙ sym (or_true (has mask run))
set_same mask run false h = has-or mask (0 * 2 ^ run % 2 ^ 64) run ∙ ap (λ (t : Bool). has mask run || t) (none_set run run)

pub set_other : (mask run : ℕ) (is : Bool) (other : ℕ) → run < 64 → (other ≡ run → ⊥) → has (bit_or mask (bool_byte is * 2 ^ run % 2 ^ 64)) other ≡ has mask other
set_other mask run true other h apart = bits_kept mask run other h apart
set_other mask run false other h apart = has-or mask (0 * 2 ^ run % 2 ^ 64) other ∙ ap (λ (t : Bool). has mask other || t) (none_set run other) ∙ or_false (has mask other)

-- what is asked of a run, and what is said of it then
pub asked_so : (is asked says : Bool) → asked ≡ true → is ≡ says → is ≡ (asked && says)
asked_so is true says a h = h
asked_so is false says a h = absurd cc

pub unasked : (is asked says : Bool) → asked ≡ false → is ≡ false → is ≡ (asked && says)
unasked is true says a h = absurd cc
unasked is false says a h = h

pub asked_twice : (is asked says : Bool) → is ≡ (asked && says) → (asked && is) ≡ (asked && says)
asked_twice is true says h = h
asked_twice is false says h = refl

-- one run more of a list is gone through
pub seen_more : (f : ℕ → Bool) (old new run : ℕ) (is : Bool) → ((k : ℕ) → k < run → has old k ≡ f k) → has old run ≡ false → has new run ≡ (has old run || is) → ((k : ℕ) → (k ≡ run → ⊥) → has new k ≡ has old k) → is ≡ f run
    → (k : ℕ) → k < run + 1 → has new k ≡ f k
seen_more f old new run is seen none same others so k below = elim (cases_eq k run) as (λ _. has new k ≡ f k) [
  | inl here ↦ rw here (same ∙ ap (λ (t : Bool). t || is) none ∙ so)
  | inr apart ↦ others k apart ∙ seen k (omega arith)
]

pub others_left : (f : ℕ → Bool) (old new run : ℕ) → ((k : ℕ) → run ≤ k → has old k ≡ f k) → ((k : ℕ) → (k ≡ run → ⊥) → has new k ≡ has old k)
    → (k : ℕ) → run + 1 ≤ k → has new k ≡ f k
others_left f old new run left others k above = others k (λ e. omega arith) ∙ left k (omega arith)

-- what is undecided without what is known
left_out : (undecided mask run : ℕ) → mask < 2 ^ 64 → run < 64 → has (bit_and undecided (bit_not w64 mask)) run ≡ (has undecided run && not (has mask run))
left_out undecided mask run small short = has-and undecided (bit_not w64 mask) run ∙ ap (λ (t : Bool). has undecided run && t) (has-not mask run small short)

and_true : (t : Bool) → (t && true) ≡ t
and_true true = refl
and_true false = refl

not_there : (t inner : Bool) → (t && not (t && inner)) ≡ (t && not inner)
not_there true inner = refl
not_there false inner = refl

and_swap : (t left right : Bool) → (t && (left && right)) ≡ ((t && right) && left)
and_swap false left right = refl
and_swap true true true = refl
and_swap true true false = refl
and_swap true false true = refl
and_swap true false false = refl

or_swap : (won t left right : Bool) → (won || (t && (left || right))) ≡ ((won || (t && right)) || ((t && not (t && right)) && left))
or_swap true t left right = refl
or_swap false false left right = refl
or_swap false true true true = refl
or_swap false true true false = refl
or_swap false true false true = refl
or_swap false true false false = refl

-- a chain of which all that is undecided holds
pub ends_true : (won undecided run : ℕ) (whole : Bool) → whole ≡ (has won run || (has undecided run && true)) → has (bit_or won undecided) run ≡ whole
ends_true won undecided run whole comes = has-or won undecided run ∙ ap (λ (t : Bool). has won run || t) (sym (and_true (has undecided run))) ∙ sym comes

module _ (won undecided mask run : ℕ) (whole : Bool) where
  -- one of which the rest is known where it is undecided
  pub ends : (rest : Bool) → whole ≡ (has won run || (has undecided run && rest)) → has mask run ≡ (has undecided run && rest) → has (bit_or won mask) run ≡ whole
  ends rest comes is = has-or won mask run ∙ ap (λ (t : Bool). has won run || t) is ∙ sym comes

  -- and one of which its opposite is
  pub ends_not : (inner : Bool) → mask < 2 ^ 64 → run < 64 → whole ≡ (has won run || (has undecided run && not inner)) → has mask run ≡ (has undecided run && inner)
      → has (bit_or won (bit_and undecided (bit_not w64 mask))) run ≡ whole
  ends_not inner small short comes is =
      has-or won (bit_and undecided (bit_not w64 mask)) run
      ∙ ap (λ (t : Bool). has won run || t) (left_out undecided mask run small short ∙ ap (λ (t : Bool). has undecided run && not t) is ∙ not_there (has undecided run) inner)
      ∙ sym comes

  -- the right part of an AND is known
  pub after_and : (left right : Bool) → whole ≡ (has won run || (has undecided run && (left && right))) → has mask run ≡ (has undecided run && right) → whole ≡ (has won run || (has mask run && left))
  after_and left right comes is = comes ∙ ap (λ (t : Bool). has won run || t) (and_swap (has undecided run) left right ∙ ap (λ (t : Bool). t && left) (sym is))

  -- that of an OR
  pub after_or : (left right : Bool) → mask < 2 ^ 64 → run < 64 → whole ≡ (has won run || (has undecided run && (left || right))) → has mask run ≡ (has undecided run && right)
      → whole ≡ (has (bit_or won mask) run || (has (bit_and undecided (bit_not w64 mask)) run && left))
  after_or left right small short comes is =
      comes ∙ or_swap (has won run) (has undecided run) left right
      ∙ (λ i. (has won run || sym is i) || ((has undecided run && not (sym is i)) && left))
      ∙ (λ i. sym (has-or won mask run) i || (sym (left_out undecided mask run small short) i && left))

-- a mask shifted, with the bit of a run that stands before the others
flag_first : (is : Bool) → has (bool_byte is) 0 ≡ is
flag_first true = refl
flag_first false = refl

flag_more : (is : Bool) (k : ℕ) → has (bool_byte is) (suc k) ≡ false
flag_more true k = ap (λ n. eqb n 1) (bit_at-suc 1 k ∙ bit_at-zero k)
flag_more false k = has-none (suc k)

shifted_first : (mask : ℕ) (is : Bool) → has (bit_or (mask * 2 % 2 ^ 64) (bool_byte is)) 0 ≡ is
shifted_first mask is =
    let even : mask * 2 % 2 ^ 64 % 2 ≡ 0 = omega arith in
    has-or (mask * 2 % 2 ^ 64) (bool_byte is) 0
    ∙ (λ i. ap (λ n. eqb n 1) (bit_at_lowest (mask * 2 % 2 ^ 64) ∙ even) i || flag_first is i)

shifted_more : (mask k : ℕ) (is : Bool) → suc k < 64 → has (bit_or (mask * 2 % 2 ^ 64) (bool_byte is)) (suc k) ≡ has mask k
shifted_more mask k is short =
    let half : mask * 2 % 2 ^ 64 / 2 ≡ mask % 2 ^ 63 = omega arith in
    let whole : mask / 2 ^ 63 * 2 ^ 63 + mask % 2 ^ 63 ≡ mask = omega arith in
    let low : bit_at (mask % 2 ^ 63) k ≡ bit_at mask k = sym (bit_at_cat_low (mask / 2 ^ 63) 63 (mask % 2 ^ 63) k (omega arith)) ∙ ap (λ n. bit_at n k) whole in
    has-or (mask * 2 % 2 ^ 64) (bool_byte is) (suc k)
    ∙ (λ i. ap (λ n. eqb n 1) (bit_at-suc (mask * 2 % 2 ^ 64) k ∙ ap (λ n. bit_at n k) half ∙ low) i || flag_more is k i)
    ∙ or_false (has mask k)

pub seen_before : (f : ℕ → Bool) (mask before run count : ℕ) (is : Bool) → count ≤ 64 → before ≡ run + 1 → ((k : ℕ) → before + k < count → has mask k ≡ f (before + k)) → is ≡ f run
    → (k : ℕ) → run + k < count → has (bit_or (mask * 2 % 2 ^ 64) (bool_byte is)) k ≡ f (run + k)
seen_before f mask before run count is few next seen so zero below = let same : run ≡ run + 0 = omega arith in shifted_first mask is ∙ so ∙ ap f same
seen_before f mask before run count is few next seen so (suc k) below =
    let same : before + k ≡ run + suc k = omega arith in
    shifted_more mask k is (omega arith) ∙ seen k (omega arith) ∙ ap f same

-- the bit of one run alone, and all bits but this one
one_bit : (run other : ℕ) → has (1 * 2 ^ run % 2 ^ 64) other ≡ has (bit_or 0 (1 * 2 ^ run % 2 ^ 64)) other
one_bit run other = sym (has-or 0 (1 * 2 ^ run % 2 ^ 64) other ∙ ap (λ (t : Bool). t || has (1 * 2 ^ run % 2 ^ 64) other) (has-none other))

pub cleared_same : (mask run : ℕ) → run < 64 → has (bit_and mask (bit_not w64 (1 * 2 ^ run % 2 ^ 64))) run ≡ false
cleared_same mask run h =
    has-and mask (bit_not w64 (1 * 2 ^ run % 2 ^ 64)) run
    ∙ ap (λ (t : Bool). has mask run && t) (has-not (1 * 2 ^ run % 2 ^ 64) run (omega arith) h ∙ ap not (one_bit run run ∙ bit_set 0 run h)) ∙ and_false (has mask run)
  where
    and_false : (t : Bool) → (t && false) ≡ false
    and_false true = refl
    and_false false = refl

pub cleared_other : (mask run other : ℕ) → run < 64 → other < 64 → (other ≡ run → ⊥) → has (bit_and mask (bit_not w64 (1 * 2 ^ run % 2 ^ 64))) other ≡ has mask other
cleared_other mask run other h i apart =
    has-and mask (bit_not w64 (1 * 2 ^ run % 2 ^ 64)) other
    ∙ ap (λ (t : Bool). has mask other && t) (has-not (1 * 2 ^ run % 2 ^ 64) other (omega arith) i ∙ ap not (one_bit run other ∙ bits_kept 0 run other h apart ∙ has-none other)) ∙ and_true (has mask other)
  where
    and_true : (t : Bool) → (t && true) ≡ t
    and_true true = refl
    and_true false = refl
