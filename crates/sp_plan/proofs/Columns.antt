-- Numbers between two others, and the least and the greatest of them against one.
use Rattle.std.proofs.Common.{◌≡◌, ℕ, ℤ, pos, ◌-◌, ◌<◌, ◌^◌, ◌≤ℤ◌, ◌<ℤ◌, int_le, int_lt, true, not, List, [], ◌∷◌, length, get_or, take, drop, sym, ◌+◌, ◌≤◌, ◌∙◌, arith, length-take}
use Rattle.std.specs.List.{All}
use Rattle.std.proofs.lemmas.Int.{ints}
use Rattle.std.proofs.lemmas.List.{length-append, length-drop, length_push, take_more}
use Rattle.std.proofs.lemmas.List.Elements.{All-append, All-cons, All-drop, All-nil, All-push, All-take, All-weaker}
use Rattle.sp_plan.specs.Held.{put}
use Rattle.sp_plan.specs.Holding.{Between}
use Rattle.sp_plan.specs.Masks.{has}
use Rattle.sp_plan.proofs.MaskBits.{has-all}

below_one : (a b c : ℤ) → a ≤ℤ b → b ≤ℤ c → a ≤ℤ c
below_one a b c h i = omega (arith, ints)

pub between_none : (least greatest : ℤ) → Between [] least greatest
between_none least greatest = record { few = omega arith; above = All-nil (λ (n : ℤ). least ≤ℤ n); under = All-nil (λ (n : ℤ). n ≤ℤ greatest) }

-- the same numbers lie between wider ones
wider_above : (xs : List ℤ) (least least' : ℤ) → least' ≤ℤ least → All (λ n. least ≤ℤ n) xs → All (λ n. least' ≤ℤ n) xs
wider_above xs least least' h all = All-weaker (λ (n : ℤ). least ≤ℤ n) (λ (n : ℤ). least' ≤ℤ n) (λ n i. below_one least' least n h i) xs all

wider_under : (xs : List ℤ) (greatest greatest' : ℤ) → greatest ≤ℤ greatest' → All (λ n. n ≤ℤ greatest) xs → All (λ n. n ≤ℤ greatest') xs
wider_under xs greatest greatest' h all = All-weaker (λ (n : ℤ). n ≤ℤ greatest) (λ (n : ℤ). n ≤ℤ greatest') (λ n i. below_one n greatest greatest' i h) xs all

-- one number more of a list is gone through
pub between_more : (xs : List ℤ) (i : ℕ) (least greatest least' greatest' : ℤ) → length xs ≤ 64 → i < length xs → Between (take i xs) least greatest
    → least' ≤ℤ least → least' ≤ℤ get_or xs i (pos 0) → greatest ≤ℤ greatest' → get_or xs i (pos 0) ≤ℤ greatest' → Between (take (i + 1) xs) least' greatest'
between_more xs i least greatest least' greatest' few within b la ln ga gn =
    let n : ℤ = get_or xs i (pos 0) in
    rw (take_more xs i (pos 0) within) (record {
      few = omega (arith, length_push (take i xs) n, length-take i xs);
      above = All-push (λ (m : ℤ). least' ≤ℤ m) (take i xs) n (wider_above (take i xs) least least' la b.above) ln;
      under = All-push (λ (m : ℤ). m ≤ℤ greatest') (take i xs) n (wider_under (take i xs) greatest greatest' ga b.under) gn;
    })

-- another number at a place, or one more
pub between_put : (xs : List ℤ) (at : ℕ) (least greatest least' greatest' n : ℤ) → Between xs least greatest → at < 64
    → least' ≤ℤ least → least' ≤ℤ n → greatest ≤ℤ greatest' → n ≤ℤ greatest' → Between (put xs at n) least' greatest'
between_put xs at least greatest least' greatest' n b room la ln ga gn = record {
  few = omega (arith, b.few, room, length-append (take at xs) (n ∷ drop (at + 1) xs), length-take at xs, length-drop (at + 1) xs);
  above = All-append (λ (m : ℤ). least' ≤ℤ m) (take at xs) (n ∷ drop (at + 1) xs) (All-take (λ (m : ℤ). least' ≤ℤ m) at xs (wider_above xs least least' la b.above))
      (All-cons (λ (m : ℤ). least' ≤ℤ m) n (drop (at + 1) xs) ln (All-drop (λ (m : ℤ). least' ≤ℤ m) (at + 1) xs (wider_above xs least least' la b.above)));
  under = All-append (λ (m : ℤ). m ≤ℤ greatest') (take at xs) (n ∷ drop (at + 1) xs) (All-take (λ (m : ℤ). m ≤ℤ greatest') at xs (wider_under xs greatest greatest' ga b.under))
      (All-cons (λ (m : ℤ). m ≤ℤ greatest') n (drop (at + 1) xs) gn (All-drop (λ (m : ℤ). m ≤ℤ greatest') (at + 1) xs (wider_under xs greatest greatest' ga b.under)));
}

less_than : (n g t : ℤ) → n ≤ℤ g → g <ℤ t → int_lt n t ≡ true
less_than n g t h i = grind (arith, ints)

-- all of them are less where the greatest is
pub all_less : (xs : List ℤ) (least greatest than : ℤ) → Between xs least greatest → greatest <ℤ than → (run : ℕ) → run < length xs → has (2 ^ 64 - 1) run ≡ int_lt (get_or xs run (pos 0)) than
all_less xs least greatest than b above run within =
    let few = b.few in
    has-all run (omega arith) ∙ sym (less_than (get_or xs run (pos 0)) greatest than (b.under run (pos 0) within) above)

-- the tests the other way round
pub less_as : (x y : ℤ) → not (int_le y x) ≡ int_lt x y
less_as x y = grind (arith, ints)

pub at_most_as : (x y : ℤ) → not (int_lt y x) ≡ int_le x y
at_most_as x y = grind (arith, ints)
