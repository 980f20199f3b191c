-- Texts that are numbers, as facts.
use Rattle.std.proofs.Common.{◌≡◌, ◌∙◌, ◌≤◌, ◌<◌, ℕ, Bool, true, false, cond, List, Some, None, length, ◌&&◌, nat_lt, nat_le, refl, sym, ap, arith}
use Rattle.std.specs.Str.{all_ascii_digits}
use Rattle.std.specs.Str.Parse.{IsNumeral, digits_value}
use Rattle.std.proofs.lemmas.Str.Parse.{numerals_by_value, tells_all_ascii_digits}
use Rattle.sp_cli.specs.Numbers.{number, is_numeral, is_between}

-- the text is the number, from the least to the greatest
pub record IsNumber (digits least greatest : ℕ) (text : List ℕ) (n : ℕ) : Type 0 where
  pub numeral : IsNumeral 10 text
  pub short : length text ≤ digits
  pub is : n ≡ digits_value 10 text
  pub above : least ≤ n
  pub below : n ≤ greatest

both : (a b : Bool) → a ≡ true → b ≡ true → a && b ≡ true
both true b e f = f
both false b e f = e

pub first : (a b : Bool) → a && b ≡ true → a ≡ true
first true b e = refl
first false b e = e

pub second : (a b : Bool) → a && b ≡ true → b ≡ true
second true b e = e
second false b e = absurd (cc)

lt_true : (a b : ℕ) → a < b → nat_lt a b ≡ true
lt_true a b h = search arith

le_true : (a b : ℕ) → a ≤ b → nat_le a b ≡ true
le_true a b h = search arith

lt_from : (a b : ℕ) → nat_lt a b ≡ true → a < b
lt_from a b h = search arith

pub le_from : (a b : ℕ) → nat_le a b ≡ true → a ≤ b
le_from a b h = search arith

pub number-told : (digits least greatest : ℕ) (text : List ℕ) (n : ℕ) → IsNumber digits least greatest text n → number digits least greatest text ≡ Some n
number-told digits least greatest text n told =
    let all_digits : all_ascii_digits text ≡ true = (numerals_by_value (λ ds. all_ascii_digits ds ≡ true) tells_all_ascii_digits).from text told.numeral.1 in
    let numeral : is_numeral digits text ≡ true = both (nat_lt 0 (length text)) (nat_le (length text) digits && all_ascii_digits text) (lt_true 0 (length text) told.numeral.0)
    (both (nat_le (length text) digits) (all_ascii_digits text) (le_true (length text) digits told.short) all_digits) in
    let between : is_between least greatest (digits_value 10 text) ≡ true = both (nat_le least (digits_value 10 text)) (nat_le (digits_value 10 text) greatest)
    (le_true least (digits_value 10 text) (omega (arith, told.above, told.is))) (le_true (digits_value 10 text) greatest (omega (arith, told.below, told.is))) in
    ap (λ t. cond t (Some (digits_value 10 text)) None) (both (is_numeral digits text) (is_between least greatest (digits_value 10 text)) numeral between) ∙ ap (λ v. Some v) (sym told.is)

untold_by : (digits least greatest : ℕ) (text : List ℕ) → (is_numeral digits text && is_between least greatest (digits_value 10 text) ≡ true → ⊥) → (t : Bool)
    → is_numeral digits text && is_between least greatest (digits_value 10 text) ≡ t → cond t (Some (digits_value 10 text)) None ≡ None
untold_by digits least greatest text never true e = absurd (never e)
untold_by digits least greatest text never false e = refl

pub number-untold : (digits least greatest : ℕ) (text : List ℕ) → ((n : ℕ) → IsNumber digits least greatest text n → ⊥) → number digits least greatest text ≡ None
number-untold digits least greatest text none = untold_by digits least greatest text never (is_numeral digits text && is_between least greatest (digits_value 10 text)) refl
  where
    never : is_numeral digits text && is_between least greatest (digits_value 10 text) ≡ true → ⊥
    never e =
        let numeral = first (is_numeral digits text) (is_between least greatest (digits_value 10 text)) e in
        let between = second (is_numeral digits text) (is_between least greatest (digits_value 10 text)) e in
        let short = second (nat_lt 0 (length text)) (nat_le (length text) digits && all_ascii_digits text) numeral in
        none (digits_value 10 text) (record {
          numeral = (
            lt_from 0 (length text) (first (nat_lt 0 (length text)) (nat_le (length text) digits && all_ascii_digits text) numeral),
            (numerals_by_value (λ ds. all_ascii_digits ds ≡ true) tells_all_ascii_digits).to text (second (nat_le (length text) digits) (all_ascii_digits text) short),
          );
          short = le_from (length text) digits (first (nat_le (length text) digits) (all_ascii_digits text) short);
          is = refl;
          above = le_from least (digits_value 10 text) (first (nat_le least (digits_value 10 text)) (nat_le (digits_value 10 text) greatest) between);
          below = le_from (digits_value 10 text) greatest (second (nat_le least (digits_value 10 text)) (nat_le (digits_value 10 text) greatest) between);
        })
