-- Numbers in decimal digits.
use Rattle.std.proofs.Common.{◌≡◌, ℕ, ◌+◌, ◌*◌, ◌-◌, ◌/◌, ◌%◌, ◌^◌, ◌<◌, true, ◌&&◌, List, [], ◌∷◌, ◌++◌, length, fold, refl, sym, ◌∙◌, ap, arith, rules, append_assoc, append-nil, length-append}
use Rattle.std.specs.List.{list_all}
use Rattle.std.specs.Fmt.{decimal}
use Rattle.std.proofs.lemmas.Fmt.{decimal_is_IsNumeral, decimal_digit, digits_decimal, digits_value-decimal}
use Rattle.std.proofs.lemmas.Str.Parse.{IsNumeralModel, numerals_by_fold}
use Rattle.std.proofs.lemmas.List.Folds.{list_all-append}
use Rattle.std.proofs.lemmas.List.Sums.{fold-append}
use Rattle.std.proofs.lemmas.Bool.Decides.{nat_tests}
use Rattle.sp_lex.specs.Spelling.{is_digit, number_of, IsNumber}
use Rattle.sp_syntax.specs.Printing.{IsDecimalOf}

abbrev number_on : ℕ → List ℕ → ℕ
number_on n digits = fold (λ n b. n * 10 + (b - 48)) n digits

own : IsNumeralModel (λ ds. list_all is_digit ds ≡ true) (number_on 0)
own = numerals_by_fold _ (search rules) number_on (search rules)

pub decimal_digits : (n : ℕ) → n < 2 ^ 64 → IsNumber (decimal n)
decimal_digits n h = record { some = λ e. (let i : 0 < length (decimal n) = (decimal_is_IsNumeral n h).0.0 in let j : length (decimal n) ≡ 0 = ap length e in omega arith); all = digits_decimal own n h }

pub decimal_value : (n : ℕ) → n < 2 ^ 64 → number_of (decimal n) ≡ n
decimal_value n h = digits_value-decimal own n h

-- a whole number of units, and the point
pub without_decimals : (units : ℕ) → units < 2 ^ 64 → IsDecimalOf units 0 (decimal units ++ 46 ∷ [])
without_decimals units h = record { whole = decimal units; part = []; cut = refl; is_whole = decimal_digits units h; digits = refl; scale_is = refl; units_is = ap number_of (append-nil (decimal units)) ∙ decimal_value units h }

all_append : (xs ys : List ℕ) → list_all is_digit xs ≡ true → list_all is_digit ys ≡ true → list_all is_digit (xs ++ ys) ≡ true
all_append xs ys h i = list_all-append is_digit xs ys ∙ ap (λ b. b && list_all is_digit ys) h ∙ i

digit_is : (d : ℕ) → d < 10 → list_all is_digit ((48 + d) ∷ []) ≡ true
digit_is d h = grind (arith, nat_tests)

push_cut : (whole part end : List ℕ) → (whole ++ 46 ∷ part) ++ end ≡ whole ++ 46 ∷ (part ++ end)
push_cut whole part end = append_assoc whole (46 ∷ part) end

-- the last of the decimals
pub one_decimal_more : (units scale : ℕ) (text : List ℕ) → IsDecimalOf (units / 10) scale text → IsDecimalOf units (scale + 1) (text ++ decimal (units % 10))
one_decimal_more units scale text x =
    let small : units % 10 < 10 = omega arith in
    let digit : decimal (units % 10) ≡ (48 + units % 10) ∷ [] = decimal_digit (units % 10) small in
    let end = (48 + units % 10) ∷ [] in
    let step : number_of ((x.whole ++ x.part) ++ end) ≡ number_of (x.whole ++ x.part) * 10 + ((48 + units % 10) - 48) = fold-append (λ n b. n * 10 + (b - 48)) 0 (x.whole ++ x.part) end in
    let before : number_of (x.whole ++ x.part) ≡ units / 10 = x.units_is in
    record {
      whole = x.whole;
      part = x.part ++ end;
      cut = ap (λ l. l ++ decimal (units % 10)) x.cut ∙ ap (λ l. (x.whole ++ 46 ∷ x.part) ++ l) digit ∙ push_cut x.whole x.part end;
      is_whole = x.is_whole;
      digits = all_append x.part end x.digits (digit_is (units % 10) small);
      scale_is = (let l : length (x.part ++ end) ≡ length x.part + 1 = length-append x.part end in let k : length x.part ≡ scale = x.scale_is in omega arith);
      units_is = ap number_of (sym (append_assoc x.whole x.part end)) ∙ step ∙ (let e : number_of (x.whole ++ x.part) * 10 + ((48 + units % 10) - 48) ≡ units = omega arith in e);
    }
