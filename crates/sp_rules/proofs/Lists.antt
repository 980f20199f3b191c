-- Small facts on lists of numbers, on tests, and on the least number that passes.
use Rattle.std.proofs.Common.{◌≡◌, ◌≢◌, ℕ, zero, suc, ◌+◌, ◌<◌, ◌≤◌, ◌⊎◌, Bool, true, false, not, ◌&&◌, ◌||◌, nat_lt, nat_le, List, [], ◌∷◌, filter, find, None, is_some, inl, inr, refl, sym, ◌∙◌, arith}
use Rattle.std.specs.List.{list_all, range_with_len}
use Rattle.std.proofs.lemmas.Bool.Decides.{nat_tests}
use Rattle.sp_base.specs.Numbers.{is_among}
use Rattle.sp_group.specs.Rising.{has_number, least}

pub or_cases : (a b : Bool) → (a || b) ≡ true → (a ≡ true) ⊎ (b ≡ true)
or_cases true b h = inl refl
or_cases false b h = inr h

pub or_left : (a b : Bool) → a ≡ true → (a || b) ≡ true
or_left true b h = refl
or_left false b h = absurd (cc)

pub or_right : (a b : Bool) → b ≡ true → (a || b) ≡ true
or_right true b h = refl
or_right false b h = h

pub and_left : (a b : Bool) → (a && b) ≡ true → a ≡ true
and_left true b h = refl
and_left false b h = absurd (cc)

pub and_right : (a b : Bool) → (a && b) ≡ true → b ≡ true
and_right true b h = h
and_right false b h = absurd (cc)

pub and_both : (a b : Bool) → a ≡ true → b ≡ true → (a && b) ≡ true
and_both true b h k = k
and_both false b h k = absurd (cc)

pub same_bool : (a b : Bool) → (a ≡ true → b ≡ true) → (b ≡ true → a ≡ true) → a ≡ b
same_bool true true f g = refl
same_bool true false f g = sym (f refl)
same_bool false true f g = g refl
same_bool false false f g = refl

-- a test that fails where a weaker one does
pub absent : (b : Bool) {c : Bool} → (b ≡ true → c ≡ true) → c ≡ false → b ≡ false
absent true f h = sym (f refl) ∙ h
absent false f h = refl

pub le_is : (a b : ℕ) → a ≤ b → nat_le a b ≡ true
le_is a b h = grind (arith, nat_tests)

pub lt_is : (a b : ℕ) → a < b → nat_lt a b ≡ true
lt_is a b h = grind (arith, nat_tests)

pub le_true : (a b : ℕ) → nat_le a b ≡ true → a ≤ b
le_true a b h = grind (arith, nat_tests)

pub lt_true : (a b : ℕ) → nat_lt a b ≡ true → a < b
lt_true a b h = grind (arith, nat_tests)

pub not_true : (b : Bool) → not b ≡ true → b ≡ false
not_true true h = absurd (cc)
not_true false h = refl

pub split : (a b : ℕ) → (a ≡ b) ⊎ (a ≢ b)
split a b = grind (arith, nat_tests)

pub below_or : (a b : ℕ) → (a < b) ⊎ (b ≤ a)
below_or a b = grind arith

pub mem_filter : (i : ℕ) (p : ℕ → Bool) (xs : List ℕ) → is_among (filter p xs) i ≡ true → (is_among xs i ≡ true) × (p i ≡ true)
mem_filter i p [] h = absurd (cc)
mem_filter i p (x ∷ xs) h = grind (arith, nat_tests, mem_filter i p xs)

pub filter_mem : (i : ℕ) (p : ℕ → Bool) (xs : List ℕ) → is_among xs i ≡ true → p i ≡ true → is_among (filter p xs) i ≡ true
filter_mem i p [] h k = absurd (cc)
filter_mem i p (x ∷ xs) h k = grind (arith, nat_tests, filter_mem i p xs)

pub range_mem : (i a n : ℕ) → a ≤ i → i < a + n → is_among (range_with_len a n) i ≡ true
range_mem i a zero l h = absurd (omega arith)
range_mem i a (suc n) l h = grind (arith, nat_tests, range_mem i (a + 1) n)

pub mem_range : (i a n : ℕ) → is_among (range_with_len a n) i ≡ true → (a ≤ i) × (i < a + n)
mem_range i a zero h = absurd (cc)
mem_range i a (suc n) h = grind (arith, nat_tests, mem_range i (a + 1) n)

pub all_mem : (i : ℕ) (p : ℕ → Bool) (xs : List ℕ) → list_all p xs ≡ true → is_among xs i ≡ true → p i ≡ true
all_mem i p [] h k = absurd (cc)
all_mem i p (x ∷ xs) h k = grind (arith, nat_tests, all_mem i p xs)

-- where no number fails a test, each passes
pub find_none : (i : ℕ) (p : ℕ → Bool) (xs : List ℕ) → find (λ r. not (p r)) xs ≡ None → is_among xs i ≡ true → p i ≡ true
find_none i p [] h k = absurd (cc)
find_none i p (x ∷ xs) h k = grind (arith, nat_tests, find_none i p xs)

-- and where each passes, none fails
pub none_found : (p : ℕ → Bool) (xs : List ℕ) → ((i : ℕ) → is_among xs i ≡ true → p i ≡ true) → find (λ r. not (p r)) xs ≡ None
none_found p [] each = refl
none_found p (x ∷ xs) each =
    let here = each x (grind (arith, nat_tests)) in
    let rest = none_found p xs (λ i m. each i (grind (arith, nat_tests))) in
    grind (arith, here, rest)

pub least_none : (p : ℕ → Bool) (a n i : ℕ) → is_some (least p a n) ≡ false → a ≤ i → i < a + n → p i ≡ false
least_none p a zero i e l h = absurd (omega arith)
least_none p a (suc n) i e l h = grind (arith, nat_tests, least_none p (a + 1) n i)

pub least_some : (p : ℕ → Bool) (a n : ℕ) → ((i : ℕ) → p i ≡ true → ⊥) → is_some (least p a n) ≡ false
least_some p a zero h = refl
least_some p a (suc n) h = grind (arith, h a, least_some p (a + 1) n h)

pub filled_mem : (xs : List ℕ) → has_number xs ≡ true → (i : ℕ) × (is_among xs i ≡ true)
filled_mem [] h = absurd (cc)
filled_mem (x ∷ xs) h = (x, grind (arith, nat_tests))

pub mem_filled : (i : ℕ) (xs : List ℕ) → is_among xs i ≡ true → has_number xs ≡ true
mem_filled i [] h = absurd (cc)
mem_filled i (x ∷ xs) h = refl
