-- A cell of a few digits and nothing else.
use Rattle.std.proofs.Common.{◌≡◌, ◌<◌, ◌≤◌, ◌^◌, ℕ, pos, true, false, List, [], ◌∷◌, length, reverse, refl, sym, ◌∙◌, ap, arith}
use Rattle.std.specs.Prelude.{Some, nat_lt, ◌==◌}
use Rattle.std.specs.List.{list_all}
use Rattle.std.specs.Option.{option_map}
use Rattle.std.proofs.Math.Nat.{pow-le-pow_right}
use Rattle.std.proofs.lemmas.Bool.{and_parts}
use Rattle.std.proofs.lemmas.Bool.Decides.{nat_tests}
use Rattle.std.proofs.lemmas.List.{reverse-append, reverse-reverse}
use Rattle.std.proofs.lemmas.List.Folds.{list_all-append}
use Rattle.sp_base.specs.Limits.{number_limit}
use Rattle.sp_rows.specs.Numbers.{is_blank, is_digit, are_digits, digits_value, decimals_to, without_front, trimmed, within_bound, unsigned, signed, number_of}
use Rattle.sp_rows.specs.Capped.{with_more}
use Rattle.sp_rows.proofs.Points.{whole_number}

-- as many digits as are few write a number that is no larger than so many nines
pub few_below : (value count most : ℕ) → value < 10 ^ count → count ≤ most → value < 10 ^ most
few_below value count most below few =
    let most_is : 10 ^ count ≤ 10 ^ most = pow-le-pow_right (omega arith) few in
    omega arith

pub few_fits : (value count : ℕ) → value < 10 ^ count → count ≤ 15 → value ≤ number_limit
few_fits value count below few = let at : value < 10 ^ 15 = few_below value count 15 below few in omega arith

pub one_more_fits : (value count : ℕ) → value < 10 ^ count → count < 15 → value < 100000000000000
one_more_fits value count below few = let at : value < 10 ^ 14 = few_below value count 14 below (omega arith) in omega arith

digit_not_blank : (b : ℕ) → is_digit b ≡ true → is_blank b ≡ false
digit_not_blank b digit = grind (arith, nat_tests)

digit_no_plus : (b : ℕ) → is_digit b ≡ true → (b == 43) ≡ false
digit_no_plus b digit = grind (arith, nat_tests)

digit_no_minus : (b : ℕ) → is_digit b ≡ true → (b == 45) ≡ false
digit_no_minus b digit = grind (arith, nat_tests)

-- before digits stand no blanks
front_same : (cell : List ℕ) → list_all is_digit cell ≡ true → without_front cell ≡ cell
front_same [] all = refl
front_same (b ∷ bs) all =
    let both = and_parts (is_digit b) (list_all is_digit bs) all in
    rw (digit_not_blank b both.0) refl

-- digits are digits from behind too
all_reversed : (cell : List ℕ) → list_all is_digit cell ≡ true → list_all is_digit (reverse cell) ≡ true
all_reversed [] all = refl
all_reversed (b ∷ bs) all =
    let both = and_parts (is_digit b) (list_all is_digit bs) all in
    let rest = all_reversed bs both.1 in
    ap (list_all is_digit) (reverse-append (b ∷ []) bs) ∙ list_all-append is_digit (reverse bs) (b ∷ []) ∙ rw (rest, both.0) refl

trimmed_same : (cell : List ℕ) → list_all is_digit cell ≡ true → trimmed cell ≡ cell
trimmed_same cell all =
    ap (λ (front : List ℕ). reverse (without_front (reverse front))) (front_same cell all)
    ∙ ap reverse (front_same (reverse cell) (all_reversed cell all))
    ∙ reverse-reverse cell

-- digits have no sign before them
unsigned_same : (cell : List ℕ) → list_all is_digit cell ≡ true → 0 < length cell → signed 0 cell ≡ option_map pos (unsigned 0 cell)
unsigned_same [] all some = absurd (omega arith)
unsigned_same (b ∷ bs) all some =
    let both = and_parts (is_digit b) (list_all is_digit bs) all in
    rw (digit_no_plus b both.0, digit_no_minus b both.0) refl

small_value : (n : ℕ) → n ≤ number_limit → within_bound (with_more (with_more n []) (decimals_to 0 [])) ≡ Some n
small_value n small = grind (arith, nat_tests)

-- the number that they write
pub few_write : (cell : List ℕ) (value : ℕ) → are_digits cell ≡ true → value ≡ digits_value cell → value ≤ number_limit → Some (pos value) ≡ number_of 0 cell
few_write cell value are is small =
    let both = and_parts (nat_lt 0 (length cell)) (list_all is_digit cell) are in
    let some : 0 < length cell = grind (arith, nat_tests, both.0) in
    let low : digits_value cell ≤ number_limit = omega (arith, is) in
    let units : unsigned 0 cell ≡ Some (digits_value cell) = sym (whole_number 0 cell (with_more 0 cell) are refl) ∙ small_value (digits_value cell) low in
    ap (λ (n : ℕ). Some (pos n)) is
    ∙ ap (option_map pos) (sym units)
    ∙ sym (unsigned_same cell both.1 some)
    ∙ ap (signed 0) (sym (trimmed_same cell both.1))
