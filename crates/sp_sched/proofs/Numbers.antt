-- Numbers as texts.
use Rattle.std.proofs.Common.{◌≡◌, ◌≢◌, ℕ, zero, suc, ◌<◌, ◌≤◌, ◌^◌, true, false, List, [], ◌∷◌, length, get_or, Result, Ok, Err, sym, ◌∙◌, ap, subst, arith}
use Rattle.std.specs.Fmt.{decimal}
use Rattle.std.specs.Str.{IsUtf8}
use Rattle.std.specs.Str.Parse.{AllDigits, digits_value, ParsesUnsigned}
use Rattle.std.proofs.lemmas.Bool.Decides.{nat_tests}
use Rattle.std.proofs.lemmas.Str.{IsUtf8-from_ascii}
use Rattle.std.proofs.lemmas.Str.Parse.{IsNumeralModel, numerals_by_value, tells_digits, digit_at, parse_plain}
use Rattle.std.proofs.lemmas.Fmt.{digits_decimal, decimal_nonempty, first_decimal, decimal-digits_value, decimal_digit, IsAscii-decimal, parse-decimal}
use Rattle.std.specs.List.{All}
use Rattle.std.proofs.lemmas.List.Elements.{All-from_get_or}
use Rattle.sp_sched.proofs.Parts.{is_mark}
use Rattle.sp_sched.specs.Reading.{leads, IsNumberText}

own : IsNumeralModel (AllDigits 10) (digits_value 10)
own = numerals_by_value (AllDigits 10) tells_digits

leads_where : (ds : List ℕ) → 0 < length ds → 48 < get_or ds 0 0 → get_or ds 0 0 < 58 → leads ds ≡ true
leads_where [] h i j = absurd (omega arith)
leads_where (d ∷ ds) h i j = grind (arith, nat_tests)

-- a number from 1 begins with a digit from 1 to 9
leads_decimal : (n : ℕ) → 1 ≤ n → n < 2 ^ 64 → leads (decimal n) ≡ true
leads_decimal n h w =
    let first : 48 < get_or (decimal n) 0 0 = first_decimal n (omega arith) w in
    let some : 0 < length (decimal n) = decimal_nonempty n w in
    let digit = digit_at (decimal n) 0 (digits_decimal own n w) some in
    leads_where (decimal n) some first (grind (arith, nat_tests))

led : (ds : List ℕ) → leads ds ≡ true → (0 < length ds) × (48 < get_or ds 0 0) × (get_or ds 0 0 < 58)
led [] h = cc
led (d ∷ ds) h = (omega arith, grind (arith, nat_tests), grind (arith, nat_tests))

module _ (most : ℕ) (text : List ℕ) (within : most < 2 ^ 64) where
  pub none_unless_led : leads text ≡ false → (n : ℕ) → IsNumberText most text n → ⊥
  none_unless_led unled n a =
      let bound : n ≤ most = a.within in
      let some : 1 ≤ n = a.some in
      let l : leads text ≡ true = ap leads (sym a.is) ∙ leads_decimal n some (omega arith) in
      cc

  pub none_unless_text : (IsUtf8 text → ⊥) → (n : ℕ) → IsNumberText most text n → ⊥
  none_unless_text bad n a =
      let bound : n ≤ most = a.within in
      bad (subst (λ (l : List ℕ). IsUtf8 l) a.is (IsUtf8-from_ascii (decimal n) (IsAscii-decimal n (omega arith))))

  module _ (digits : List ℕ) (same : digits ≡ text) where
    parsed : {E : Type 0} (r : Result ℕ E) → ParsesUnsigned 64 10 digits r → (n : ℕ) → IsNumberText most text n → r ≡ Ok n
    parsed r h n a =
        let bound : n ≤ most = a.within in
        parse-decimal 64 n digits r (omega arith) (omega arith) (same ∙ sym a.is) h

    pub none_unless_parsed : {E : Type 0} (r : Result ℕ E) (e : E) → ParsesUnsigned 64 10 digits r → r ≡ Err e → (n : ℕ) → IsNumberText most text n → ⊥
    none_unless_parsed r e h is n a = let p = parsed r h n a in cc

    pub none_past : {E : Type 0} (r : Result ℕ E) (m : ℕ) → ParsesUnsigned 64 10 digits r → r ≡ Ok m → most < m → (n : ℕ) → IsNumberText most text n → ⊥
    none_past r m h is past n a =
        let p = parsed r h n a in
        let q : m ≡ n = cc in
        let bound : n ≤ most = a.within in
        omega arith

    pub number_there : {E : Type 0} (r : Result ℕ E) (m : ℕ) → leads text ≡ true → ParsesUnsigned 64 10 digits r → r ≡ Ok m → m ≤ most → IsNumberText most text m
    number_there r m h p is w =
        let l = led digits (ap leads same ∙ h) in
        let plain : get_or digits 0 0 ≢ 43 = omega (arith, l.1) in
        let q = rw is at (parse_plain own 64 digits r p plain) in
        let e : decimal (digits_value 10 digits) ≡ digits = decimal-digits_value own digits q.0.0 l.0 (λ z. absurd (omega (arith, l.1))) q.0.2 in
        let text_is : decimal m ≡ text = ap decimal q.1 ∙ e ∙ same in
        record { some = some m text_is; within = w; is = text_is }
      where
        some : (m : ℕ) → decimal m ≡ text → 1 ≤ m
        some zero z =
            let zeros : decimal 0 ≡ 48 ∷ [] = decimal_digit 0 (omega arith) in
            let f : true ≡ false = sym h ∙ ap leads (sym z ∙ zeros) in
            cc
        some (suc m) z = omega arith

-- a number has no byte below the digits
pub decimal_free : (mark n : ℕ) → mark < 48 → n < 2 ^ 64 → All (λ b. is_mark mark b ≡ false) (decimal n)
decimal_free mark n low w = All-from_get_or (λ b. is_mark mark b ≡ false) (decimal n) 0 (λ i h. let digit = digit_at (decimal n) i (digits_decimal own n w) h in grind (arith, nat_tests))
