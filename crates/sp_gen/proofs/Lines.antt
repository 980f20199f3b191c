-- The bytes of lines, and how many there are.
use Prim.Native.Nat.{zero}
use Rattle.std.proofs.Common.{◌≡◌, ℕ, suc, ◌+◌, ◌/◌, ◌%◌, ◌<◌, ◌≤◌, ◌^◌, Bool, true, false, ◌&&◌, List, [], ◌∷◌, ◌++◌, map, length, refl, arith, length-append}
use Rattle.std.specs.Prelude.{codes, nat_le, ◌==◌, if◌then◌else◌}
use Rattle.std.specs.List.{All, list_all, range_with_len}
use Rattle.std.specs.Fmt.{decimal}
use Rattle.std.proofs.lemmas.Bool.Decides.{nat_tests}
use Rattle.std.proofs.lemmas.Fmt.{decimal_by_steps, decimal_nonempty, length-decimal-le}
use Rattle.std.proofs.lemmas.List.Sums.{AllPass-from_list_all}
use Rattle.std.proofs.lemmas.List.Elements.{All-nil, All-cons, All-append, All-push, All-map, All-weaker}
use Rattle.sp_gen.specs.Generated.{drawn, upper, symbol, price_text, row_text}
use Rattle.sp_gen.specs.Plain.{IsPlainLine, LinesArePlain}

abbrev IsPlain : ℕ → Type 0
IsPlain b = (44 ≤ b) × (b ≤ 122)

-- plain bytes, so many at most
record ArePlain (most : ℕ) (bytes : List ℕ) : Type 0 where
  each : All IsPlain bytes
  within : length bytes ≤ most

-- ---- bytes behind each other

behind : (m n : ℕ) (front back : List ℕ) → ArePlain m front → ArePlain n back → ArePlain (m + n) (front ++ back)
behind m n front back p q = record {
  each = All-append IsPlain front back p.each q.each;
  within =
      let a : length front ≤ m = p.within in
      let b : length back ≤ n = q.within in
      rw length-append (omega arith);
}

-- ---- the parts of a row

abbrev is_plain : ℕ → Bool
is_plain b = nat_le 44 b && nat_le b 122

passes : (b : ℕ) → is_plain b ≡ true → IsPlain b
passes b h = (grind (arith, nat_tests), grind (arith, nat_tests))

fixed : (bytes : List ℕ) (most : ℕ) → list_all is_plain bytes ≡ true → length bytes ≡ most → ArePlain most bytes
fixed bytes most h long = record { each = All-weaker (λ b. is_plain b ≡ true) IsPlain passes bytes (AllPass-from_list_all is_plain bytes h); within = omega arith }

decimal_plain : (n : ℕ) → n < 2 ^ 64 → All IsPlain (decimal n)
decimal_plain n h = decimal_by_steps (λ n ds. All IsPlain ds) one more n h
  where
    one : (n : ℕ) → n < 10 → All IsPlain ((48 + n) ∷ [])
    one n h = All-cons IsPlain (48 + n) [] (omega arith, omega arith) (All-nil IsPlain)

    more : (n : ℕ) (ds : List ℕ) → 10 ≤ n → All IsPlain ds → All IsPlain (ds ++ ((48 + n % 10) ∷ []))
    more n ds h ih = All-push IsPlain ds (48 + n % 10) ih (omega arith, omega arith)

-- a number of so many digits
number : (most n : ℕ) → 0 < most → n < 10 ^ most → n < 2 ^ 64 → ArePlain most (decimal n)
number most n some fits small = record { each = decimal_plain n small; within = length-decimal-le most n some fits small }

symbol_plain : (quarter : ℕ) → ArePlain 2 (symbol quarter)
symbol_plain quarter = by (quarter == 0) (quarter == 1) (quarter == 2)
  where
    by : (first second third : Bool) → ArePlain 2 (if first then codes "AA" else (if second then codes "BB" else (if third then codes "CC" else codes "DD")))
    by true second third = fixed (codes "AA") 2 refl refl
    by false true third = fixed (codes "BB") 2 refl refl
    by false false true = fixed (codes "CC") 2 refl refl
    by false false false = fixed (codes "DD") 2 refl refl

-- a price of less than a thousand
price_plain : (hundredths : ℕ) → hundredths < 100000 → ArePlain 8 (price_text hundredths)
price_plain h small =
    let whole = behind 3 1 _ _ (number 3 (h / 100) (omega arith) (omega arith) (omega arith)) (fixed (codes ".") 1 refl refl) in
    let tenths = behind 4 1 _ _ whole (number 1 (h / 10 % 10) (omega arith) (omega arith) (omega arith)) in
    let all = behind 5 1 _ _ tenths (number 1 (h % 10) (omega arith) (omega arith) (omega arith)) in
    behind 6 2 _ _ all (fixed (codes "00") 2 refl refl)

row_plain : (event x : ℕ) → event < 2 ^ 32 → ArePlain 26 (row_text event x)
row_plain event x small =
    let comma = fixed (codes ",") 1 refl refl in
    let numbered = behind 10 1 _ _ (number 10 event (omega arith) (omega arith) (omega arith)) comma in
    let named = behind 13 1 _ _ (behind 11 2 _ _ numbered (symbol_plain (upper x / 16384))) comma in
    let priced = behind 14 8 _ _ named (price_plain (10000 + upper x % 4096) (omega arith)) in
    behind 22 4 _ _ priced (fixed (codes ",100") 4 refl refl)

row_some : (event x : ℕ) → event < 2 ^ 32 → 0 < length (row_text event x)
row_some event x small =
    let some : 0 < length (decimal event) = decimal_nonempty event (omega arith) in
    rw length-append (omega arith)

row_line : (event x : ℕ) → event < 2 ^ 32 → IsPlainLine (row_text event x)
row_line event x small =
    let p = row_plain event x small in
    record { bytes = p.each; some = row_some event x small; short = p.within }

header_line : IsPlainLine (codes "at,sym,price,size")
header_line = let p = fixed (codes "at,sym,price,size") 17 refl refl in record { bytes = p.each; some = omega arith; short = omega arith }

pub lines_are_plain : LinesArePlain
lines_are_plain events seed small =
    All-cons IsPlainLine (codes "at,sym,price,size") (map row (range_with_len 1 events)) header_line (All-map IsPlainLine row (range_with_len 1 events) (each 1 events (omega arith)))
  where
    row : ℕ → List ℕ
    row event = row_text event (drawn seed event)

    each : (first count : ℕ) → first + count ≤ 2 ^ 32 → All (λ event. IsPlainLine (row event)) (range_with_len first count)
    each first zero h = All-nil (λ event. IsPlainLine (row event))
    each first (suc count) h = All-cons (λ event. IsPlainLine (row event)) first (range_with_len (first + 1) count) (row_line first (drawn seed first) (omega arith)) (each (first + 1) count (omega arith))
