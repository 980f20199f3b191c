-- A cell of digits with a point among them, or none, and nothing else.
use Rattle.std.proofs.Common.{◌≡◌, ◌<◌, ◌≤◌, ◌+◌, ◌*◌, ◌^◌, ℕ, zero, suc, pos, true, false, Bool, List, [], ◌∷◌, ◌++◌, length, get_or, take, drop, reverse, replicate, refl, sym, ◌∙◌, ap, subst, arith, take-append-drop, add-one}
use Rattle.std.specs.Prelude.{not, Some, None, Option, IfSome, nat_lt, ◌==◌}
use Rattle.std.specs.List.{list_all}
use Rattle.std.specs.Option.{option_map}
use Rattle.std.proofs.Math.Nat.{pow-succ'}
use Rattle.std.proofs.lemmas.Bool.{and_parts}
use Rattle.std.proofs.lemmas.Bool.Decides.{nat_tests}
use Rattle.std.proofs.lemmas.List.{reverse-append, reverse-reverse, drop_more, take_more}
use Rattle.std.proofs.lemmas.List.Folds.{list_all-append}
use Rattle.sp_base.specs.Limits.{number_limit}
use Rattle.sp_rows.specs.Numbers.{is_blank, is_digit, are_digits, decimals_to, without_front, trimmed, within_bound, units_of, unsigned, signed, number_of}
use Rattle.sp_rows.specs.Capped.{with_more}
use Rattle.sp_rows.proofs.Digits.{in_two}
use Rattle.sp_rows.proofs.Points.{whole_number, point_at}

-- no blank, no tab
abbrev is_dark : ℕ → Bool
is_dark b = not (is_blank b)

digit_dark : (b : ℕ) → is_digit b ≡ true → is_dark b ≡ true
digit_dark b digit = grind (arith, nat_tests)

all_dark : (cell : List ℕ) → list_all is_digit cell ≡ true → list_all is_dark cell ≡ true
all_dark [] all = refl
all_dark (b ∷ bs) all =
    let both = and_parts (is_digit b) (list_all is_digit bs) all in
    rw (digit_dark b both.0, all_dark bs both.1) refl

dark_no_blank : (b : ℕ) → is_dark b ≡ true → is_blank b ≡ false
dark_no_blank b dark = by (is_blank b) dark
  where
    by : (blank : Bool) → not blank ≡ true → blank ≡ false
    by true is = sym is
    by false is = refl

-- without blanks nothing is cut off
front_same : (cell : List ℕ) → list_all is_dark cell ≡ true → without_front cell ≡ cell
front_same [] all = refl
front_same (b ∷ bs) all =
    let both = and_parts (is_dark b) (list_all is_dark bs) all in
    rw (dark_no_blank b both.0) refl

all_reversed : (cell : List ℕ) → list_all is_dark cell ≡ true → list_all is_dark (reverse cell) ≡ true
all_reversed [] all = refl
all_reversed (b ∷ bs) all =
    let both = and_parts (is_dark b) (list_all is_dark bs) all in
    let rest = all_reversed bs both.1 in
    ap (list_all is_dark) (reverse-append (b ∷ []) bs) ∙ list_all-append is_dark (reverse bs) (b ∷ []) ∙ rw (rest, both.0) refl

trimmed_same : (cell : List ℕ) → list_all is_dark cell ≡ true → trimmed cell ≡ cell
trimmed_same cell all =
    ap (λ (front : List ℕ). reverse (without_front (reverse front))) (front_same cell all)
    ∙ ap reverse (front_same (reverse cell) (all_reversed cell all))
    ∙ reverse-reverse cell

digit_no_plus : (b : ℕ) → is_digit b ≡ true → (b == 43) ≡ false
digit_no_plus b digit = grind (arith, nat_tests)

digit_no_minus : (b : ℕ) → is_digit b ≡ true → (b == 45) ≡ false
digit_no_minus b digit = grind (arith, nat_tests)

-- a digit in front is no sign
unsigned_same : (scale : ℕ) (cell : List ℕ) → 0 < length cell → is_digit (get_or cell 0 0) ≡ true → signed scale cell ≡ option_map pos (unsigned scale cell)
unsigned_same scale [] some digit = absurd (omega arith)
unsigned_same scale (b ∷ bs) some digit = rw (digit_no_plus b digit, digit_no_minus b digit) refl

first_digit : (cell : List ℕ) (count : ℕ) → are_digits (take count cell) ≡ true → is_digit (get_or cell 0 0) ≡ true
first_digit cell zero are = absurd (cc)
first_digit [] (suc count) are = absurd (cc)
first_digit (b ∷ bs) (suc count) are =
    let front = take (suc count) (b ∷ bs) in
    let all = and_parts (nat_lt 0 (length front)) (list_all is_digit front) are in
    (and_parts (is_digit b) (list_all is_digit (take count bs)) all.1).0

some_digit : (cell : List ℕ) (count : ℕ) → are_digits (take count cell) ≡ true → 0 < length cell
some_digit [] zero are = absurd (cc)
some_digit [] (suc count) are = absurd (cc)
some_digit (b ∷ bs) count are = omega arith

-- units without a sign are those of the cell, where it has no blank and a digit in front
plain_write : (scale : ℕ) (cell : List ℕ) (n : ℕ) → list_all is_dark cell ≡ true → 0 < length cell → is_digit (get_or cell 0 0) ≡ true → Some n ≡ unsigned scale cell → Some (pos n) ≡ number_of scale cell
plain_write scale cell n dark some digit is =
    ap (option_map pos) is
    ∙ sym (unsigned_same scale cell some digit)
    ∙ ap (signed scale) (sym (trimmed_same cell dark))

within : (n : ℕ) → n ≤ number_limit → within_bound n ≡ Some n
within n small = grind (arith, nat_tests)

-- a cell of digits alone
pub whole_write : (scale : ℕ) (cell : List ℕ) (count value n : ℕ) → take count cell ≡ cell → are_digits (take count cell) ≡ true → value ≡ with_more 0 (take count cell) → n ≡ with_more value (decimals_to scale []) → n ≤ number_limit → Some (pos n) ≡ number_of scale cell
whole_write scale cell count value n all are is units small =
    let own : are_digits cell ≡ true = subst (λ (l : List ℕ). are_digits l ≡ true) all are in
    let both = and_parts (nat_lt 0 (length cell)) (list_all is_digit cell) own in
    let unit : Some n ≡ unsigned scale cell = sym (within n small) ∙ ap within_bound units ∙ whole_number scale cell value own (is ∙ ap (with_more 0) all) in
    plain_write scale cell n (all_dark cell both.1) (some_digit cell count are) (first_digit cell count are) unit

-- zeros are digits
zero_digit : (b : ℕ) → (b == 48) ≡ true → is_digit b ≡ true
zero_digit b is = grind (arith, nat_tests)

zeros_digits : (bs : List ℕ) → list_all (λ b. b == 48) bs ≡ true → list_all is_digit bs ≡ true
zeros_digits [] all = refl
zeros_digits (b ∷ bs) all =
    let both = and_parts (b == 48) (list_all (λ b. b == 48) bs) all in
    rw (zero_digit b both.0, zeros_digits bs both.1) refl

-- decimals are digits where those that count are, and the others zeros
digits_all : (scale : ℕ) (decimals more : List ℕ) → list_all is_digit (take scale (decimals ++ more)) ≡ true → list_all (λ b. b == 48) (drop scale decimals) ≡ true → list_all is_digit decimals ≡ true
digits_all scale [] more kept past = refl
digits_all zero (b ∷ bs) more kept past = zeros_digits (b ∷ bs) past
digits_all (suc scale) (b ∷ bs) more kept past =
    let both = and_parts (is_digit b) (list_all is_digit (take scale (bs ++ more))) kept in
    rw (both.0, digits_all scale bs more both.1 past) refl

some_are : (bs : List ℕ) → (nat_lt 0 (length bs)) ≡ true → list_all is_digit bs ≡ true → are_digits bs ≡ true
some_are bs some all = rw (some, all) refl

-- a cell of digits with a point among them
pub point_write : (scale : ℕ) (cell decimals : List ℕ) (count value n : ℕ) → count < length cell → are_digits (take count cell) ≡ true → get_or cell count 0 ≡ 46 → decimals ≡ drop (count + 1) cell
    → nat_lt 0 (length decimals) ≡ true → list_all (λ b. b == 48) (drop scale decimals) ≡ true → list_all is_digit (decimals_to scale decimals) ≡ true
    → value ≡ with_more 0 (take count cell) → n ≡ with_more value (decimals_to scale decimals) → n ≤ number_limit → Some (pos n) ≡ number_of scale cell
point_write scale cell decimals count value n inside are point back some past kept is units small =
    let digits : list_all is_digit decimals ≡ true = digits_all scale decimals (replicate scale 48) kept past in
    let second : are_digits decimals ≡ true = some_are decimals some digits in
    let whole = take count cell in
    let front = and_parts (nat_lt 0 (length whole)) (list_all is_digit whole) are in
    let unit : Some n ≡ units_of scale (whole ∷ decimals ∷ []) =
    rw (are, second, past) (sym (within n small) ∙ ap within_bound (units ∙ ap (λ (m : ℕ). with_more m (decimals_to scale decimals)) is) ∙ in_two whole (decimals_to scale decimals)) in
    let all : Some n ≡ unsigned scale cell = unit ∙ ap (λ (l : List ℕ). units_of scale (whole ∷ l ∷ [])) back ∙ point_at scale cell count inside are point in
    let parts : cell ≡ whole ++ 46 ∷ decimals =
    sym (take-append-drop count cell) ∙ ap (λ (l : List ℕ). whole ++ l) (drop_more cell count 0 inside) ∙ (λ i. whole ++ (point i ∷ sym back i)) in
    let dark : list_all is_dark (whole ++ 46 ∷ decimals) ≡ true =
    list_all-append is_dark whole (46 ∷ decimals) ∙ rw (all_dark whole front.1, all_dark decimals digits) refl in
    plain_write scale cell n (ap (list_all is_dark) parts ∙ dark) (some_digit cell count are) (first_digit cell count are) all

-- the same of a number that there may be
pub whole_units : (scale : ℕ) (cell : List ℕ) (count value : ℕ) (found : Option ℕ) → take count cell ≡ cell → are_digits (take count cell) ≡ true → value ≡ with_more 0 (take count cell)
    → IfSome found (λ n. n ≡ with_more value (decimals_to scale [])) → IfSome found (λ n. n ≤ number_limit) → IfSome found (λ n. Some (pos n) ≡ number_of scale cell)
whole_units scale cell count value None all are is units small = tt
whole_units scale cell count value (Some n) all are is units small = whole_write scale cell count value n all are is units small

pub point_units : (scale : ℕ) (cell decimals : List ℕ) (count value : ℕ) (found : Option ℕ) → count < length cell → are_digits (take count cell) ≡ true → get_or cell count 0 ≡ 46 → decimals ≡ drop (count + 1) cell
    → nat_lt 0 (length decimals) ≡ true → list_all (λ b. b == 48) (drop scale decimals) ≡ true → IfSome found (λ n. list_all is_digit (decimals_to scale decimals) ≡ true)
    → value ≡ with_more 0 (take count cell) → IfSome found (λ n. n ≡ with_more value (decimals_to scale decimals)) → IfSome found (λ n. n ≤ number_limit) → IfSome found (λ n. Some (pos n) ≡ number_of scale cell)
point_units scale cell decimals count value None inside are point back some past kept is units small = tt
point_units scale cell decimals count value (Some n) inside are point back some past kept is units small = point_write scale cell decimals count value n inside are point back some past kept is units small

-- one digit more is a digit of those that count
pub digits_more : (list : List ℕ) (i digit : ℕ) → i < length list → list_all is_digit (take i list) ≡ true → digit ≡ get_or list i 0 → is_digit digit ≡ true → list_all is_digit (take (i + 1) list) ≡ true
digits_more list i digit inside so_far here is =
    let next : is_digit (get_or list i 0) ≡ true = ap is_digit (sym here) ∙ is in
    ap (list_all is_digit) (take_more list i 0 inside) ∙ list_all-append is_digit (take i list) (get_or list i 0 ∷ []) ∙ rw (so_far, next) refl

-- and the number has one digit more
pub below_more : (value digit count : ℕ) → value < 10 ^ count → digit ≤ 9 → value * 10 + digit < 10 ^ (count + 1)
below_more value digit count below small =
    let next : 10 ^ (count + 1) ≡ 10 * 10 ^ count = ap (λ (k : ℕ). 10 ^ k) (add-one count) ∙ pow-succ' 10 count in
    omega (arith, next, below, small)
