-- Numbers that are written with digits read as themselves.
use Rattle.std.proofs.Common.{rules, ◌≡◌, ◌<◌, ◌≤◌, ◌+◌, ◌-◌, ◌*◌, ◌/◌, ◌%◌, ◌^◌, ◌==◌, ℕ, pos, true, false, eqb, List, [], ◌∷◌, ◌++◌, length, Some, refl, sym, ◌∙◌, ap, arith, append_assoc, append-nil, length-append, fold, subst}
use Rattle.std.specs.Prelude.{codes, nat_lt, nat_le, reverse}
use Rattle.std.specs.List.{All, list_all, slice_split}
use Rattle.std.specs.Fmt.{decimal}
use Rattle.std.proofs.lemmas.Bool.Decides.{nat_tests}
use Rattle.std.proofs.lemmas.Fmt.{decimal_digit, decimal_nonempty, digits_decimal, digits_value-decimal}
use Rattle.std.proofs.lemmas.Grind.{reverse_onto}
use Rattle.std.proofs.lemmas.List.{reverse-reverse}
use Rattle.std.proofs.lemmas.List.Elements.{All-nil, All-cons, All-head, All-tail, All-append, All-push, All-same, All-weaker}
use Rattle.std.proofs.lemmas.List.Splits.{slice_split_none, slice_split_at}
use Rattle.std.proofs.lemmas.List.Sums.{AllPass-from_list_all, fold-append}
use Rattle.std.proofs.lemmas.Str.Parse.{IsNumeralModel, numerals_by_fold}
use Rattle.sp_base.specs.Limits.{number_limit}
use Rattle.sp_gen.specs.Generated.{price_text}
use Rattle.sp_rows.specs.Numbers.{is_blank, without_front, trimmed, is_digit, digits_value, are_digits, units_of, unsigned, signed, number_of}

-- ---- a cell without blanks

abbrev IsSolid : ℕ → Type 0
IsSolid b = is_blank b ≡ false

solid_back : (bytes : List ℕ) → All IsSolid bytes → All IsSolid (reverse bytes)
solid_back [] all = all
solid_back (b ∷ bytes) all =
    All-same IsSolid (reverse (b ∷ bytes)) (reverse bytes ++ b ∷ []) (reverse_onto bytes b [])
    (All-push IsSolid (reverse bytes) b (solid_back bytes (All-tail IsSolid b bytes all)) (All-head IsSolid b bytes all))

solid_front : (bytes : List ℕ) → All IsSolid bytes → without_front bytes ≡ bytes
solid_front [] all = refl
solid_front (b ∷ bytes) all = rw (All-head IsSolid b bytes all) refl

-- nothing is trimmed off
solid_cell : (bytes : List ℕ) → All IsSolid bytes → trimmed bytes ≡ bytes
solid_cell bytes all =
    ap (λ (l : List ℕ). reverse (without_front (reverse l))) (solid_front bytes all)
    ∙ ap reverse (solid_front (reverse bytes) (solid_back bytes all))
    ∙ reverse-reverse bytes

-- ---- digits

abbrev pub IsDigit : ℕ → Type 0
IsDigit b = is_digit b ≡ true

own : IsNumeralModel (λ ds. list_all is_digit ds ≡ true) digits_value
own = numerals_by_fold (λ ds. list_all is_digit ds ≡ true) (search rules) (λ n ds. fold (λ n b. n * 10 + (b - 48)) n ds) (search rules)

-- a number is written with digits alone
pub digits_of : (n : ℕ) → n < 2 ^ 64 → All IsDigit (decimal n)
digits_of n small = AllPass-from_list_all is_digit (decimal n) (digits_decimal own n small)

-- one at least
are_digits_of : (n : ℕ) → n < 2 ^ 64 → are_digits (decimal n) ≡ true
are_digits_of n small =
    let some : 0 < length (decimal n) = decimal_nonempty n small in
    let more : nat_lt 0 (length (decimal n)) ≡ true = grind (arith, nat_tests, some) in
    rw (more, digits_decimal own n small) refl

value_of : (n : ℕ) → n < 2 ^ 64 → digits_value (decimal n) ≡ n
value_of n small = digits_value-decimal own n small

-- a byte that stands in a number: a digit or the point
abbrev pub IsOfNumber : ℕ → Type 0
IsOfNumber b = (46 ≤ b) × (b ≤ 57)

pub digit_of_number : (b : ℕ) → IsDigit b → IsOfNumber b
digit_of_number b digit = (grind (arith, nat_tests), grind (arith, nat_tests))

solid_number : (b : ℕ) → IsOfNumber b → IsSolid b
solid_number b (low, high) =
    let blank : eqb b 32 ≡ false = grind (arith, nat_tests, low) in
    let tab : eqb b 9 ≡ false = grind (arith, nat_tests, low) in
    rw (blank, tab) refl

no_point : (b : ℕ) → IsDigit b → eqb b 46 ≡ false
no_point b digit =
    let low : 48 ≤ b = grind (arith, nat_tests) in
    grind (arith, nat_tests, low)

-- digits have no point among them
pointless : (bytes : List ℕ) → All IsDigit bytes → All (λ b. eqb b 46 ≡ false) bytes
pointless bytes all = All-weaker IsDigit (λ b. eqb b 46 ≡ false) no_point bytes all

-- a number without a sign
unsigned_cell : (scale : ℕ) (bytes : List ℕ) (n : ℕ) → All IsOfNumber bytes → 0 < length bytes → unsigned scale bytes ≡ Some n → number_of scale bytes ≡ Some (pos n)
unsigned_cell scale [] n all some is = absurd (omega arith)
unsigned_cell scale (b ∷ bytes) n all some is =
    let first = All-head IsOfNumber b bytes all in
    let low : 46 ≤ b = first.0 in
    let plus : eqb b 43 ≡ false = grind (arith, nat_tests, low) in
    let minus : eqb b 45 ≡ false = grind (arith, nat_tests, low) in
    ap (signed scale) (solid_cell (b ∷ bytes) (All-weaker IsOfNumber IsSolid solid_number (b ∷ bytes) all))
    ∙ rw (plus, minus, is) refl

-- the number of an event is read as a whole number
pub whole_number : (n : ℕ) → n ≤ number_limit → number_of 0 (decimal n) ≡ Some (pos n)
whole_number n small =
    let fits : n < 2 ^ 64 = omega arith in
    let digits = digits_of n fits in
    let bound : nat_le n number_limit ≡ true = grind (arith, nat_tests, small) in
    let units : unsigned 0 (decimal n) ≡ Some n =
    ap (units_of 0) (slice_split_none (λ b. b == 46) (decimal n) (pointless (decimal n) digits))
    ∙ rw (are_digits_of n fits, append-nil (decimal n), value_of n fits, bound) refl in
    unsigned_cell 0 (decimal n) n (All-weaker IsDigit IsOfNumber digit_of_number (decimal n) digits) (decimal_nonempty n fits) units

-- ---- prices

grouped : (a b c d e : List ℕ) → a ++ b ++ c ++ d ++ e ≡ a ++ (b ++ (c ++ (d ++ e)))
grouped a b c d e = append_assoc (a ++ b ++ c) d e ∙ append_assoc (a ++ b) c (d ++ e) ∙ append_assoc a b (c ++ (d ++ e))

-- a price as its digits
price_digits : (h : ℕ) → price_text h ≡ decimal (h / 100) ++ 46 ∷ (48 + h / 10 % 10) ∷ (48 + h % 10) ∷ 48 ∷ 48 ∷ []
price_digits h =
    grouped (decimal (h / 100)) (codes ".") (decimal (h / 10 % 10)) (decimal (h % 10)) (codes "00")
    ∙ ap (λ (l : List ℕ). decimal (h / 100) ++ 46 ∷ (l ++ (decimal (h % 10) ++ codes "00"))) (decimal_digit (h / 10 % 10) (omega arith))
    ∙ ap (λ (l : List ℕ). decimal (h / 100) ++ 46 ∷ (48 + h / 10 % 10) ∷ (l ++ codes "00")) (decimal_digit (h % 10) (omega arith))

digit_at : (d : ℕ) → d < 10 → IsDigit (48 + d)
digit_at d small =
    let low : nat_le 48 (48 + d) ≡ true = grind (arith, nat_tests) in
    let high : nat_le (48 + d) 57 ≡ true = grind (arith, nat_tests, small) in
    rw (low, high) refl

-- the digits behind the point of a price
behind_point : (t u : ℕ) → t < 10 → u < 10 → All IsDigit ((48 + t) ∷ (48 + u) ∷ 48 ∷ 48 ∷ [])
behind_point t u low high =
    let zeros = All-cons IsDigit 48 (48 ∷ []) refl (All-cons IsDigit 48 [] refl (All-nil IsDigit)) in
    All-cons IsDigit (48 + t) ((48 + u) ∷ 48 ∷ 48 ∷ []) (digit_at t low) (All-cons IsDigit (48 + u) (48 ∷ 48 ∷ []) (digit_at u high) zeros)

-- hundredths in their digits
two_decimals : (h w : ℕ) → w ≡ h / 100 → (w * 10 + (48 + h / 10 % 10 - 48)) * 10 + (48 + h % 10 - 48) ≡ h
two_decimals h w is = omega arith

-- the units of the digits of a price
price_units : (h : ℕ) → h < 1000000 → unsigned 2 (decimal (h / 100) ++ 46 ∷ (48 + h / 10 % 10) ∷ (48 + h % 10) ∷ 48 ∷ 48 ∷ []) ≡ Some h
price_units h small =
    let fits : h / 100 < 2 ^ 64 = omega arith in
    let back = behind_point (h / 10 % 10) (h % 10) (omega arith) (omega arith) in
    let decimals = (48 + h / 10 % 10) ∷ (48 + h % 10) ∷ 48 ∷ 48 ∷ [] in
    let parts : slice_split (λ b. b == 46) (decimal (h / 100) ++ 46 ∷ decimals) ≡ decimal (h / 100) ∷ decimals ∷ [] =
    slice_split_at (λ b. b == 46) (decimal (h / 100)) 46 decimals (pointless (decimal (h / 100)) (digits_of (h / 100) fits)) refl
    ∙ ap (λ (l : List (List ℕ)). decimal (h / 100) ∷ l) (slice_split_none (λ b. b == 46) decimals (pointless decimals back)) in
    let first : is_digit (48 + h / 10 % 10) ≡ true = digit_at (h / 10 % 10) (omega arith) in
    let second : is_digit (48 + h % 10) ≡ true = digit_at (h % 10) (omega arith) in
    let value : digits_value (decimal (h / 100) ++ (48 + h / 10 % 10) ∷ (48 + h % 10) ∷ []) ≡ h =
    fold-append (λ n b. n * 10 + (b - 48)) 0 (decimal (h / 100)) ((48 + h / 10 % 10) ∷ (48 + h % 10) ∷ []) ∙ two_decimals h (digits_value (decimal (h / 100))) (value_of (h / 100) fits) in
    let bound : nat_le h number_limit ≡ true = grind (arith, nat_tests, small) in
    ap (units_of 2) parts ∙ rw (are_digits_of (h / 100) fits, first, second, value, bound) refl

-- a price is of digits and a point
pub price_bytes : (h : ℕ) → h < 1000000 → All IsOfNumber (price_text h) × (0 < length (price_text h))
price_bytes h small =
    let fits : h / 100 < 2 ^ 64 = omega arith in
    let decimals = (48 + h / 10 % 10) ∷ (48 + h % 10) ∷ 48 ∷ 48 ∷ [] in
    let front = All-weaker IsDigit IsOfNumber digit_of_number (decimal (h / 100)) (digits_of (h / 100) fits) in
    let back = All-weaker IsDigit IsOfNumber digit_of_number decimals (behind_point (h / 10 % 10) (h % 10) (omega arith) (omega arith)) in
    let all = All-append IsOfNumber (decimal (h / 100)) (46 ∷ decimals) front (All-cons IsOfNumber 46 decimals (omega arith, omega arith) back) in
    let some : 0 < length (decimal (h / 100) ++ 46 ∷ decimals) = omega (arith, length-append (decimal (h / 100)) (46 ∷ decimals)) in
    subst (λ (l : List ℕ). All IsOfNumber l × (0 < length l)) (sym (price_digits h)) (all, some)

-- a price is read as its hundredths
pub price_number : (h : ℕ) → h < 1000000 → number_of 2 (price_text h) ≡ Some (pos h)
price_number h small =
    let bytes = price_bytes h small in
    unsigned_cell 2 (price_text h) h bytes.0 bytes.1 (ap (unsigned 2) (price_digits h) ∙ price_units h small)
