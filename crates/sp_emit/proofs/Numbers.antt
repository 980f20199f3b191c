-- Numbers in front of texts.
use Rattle.std.proofs.Common.{◌≡◌, ◌≢◌, ℕ, zero, suc, ◌+◌, ◌<◌, ◌≤◌, ◌^◌, true, false, List, [], ◌∷◌, ◌++◌, length, get_or, take, drop, fold, refl, sym, ◌∙◌, ap, subst, arith, rules, take-append-drop}
use Rattle.std.specs.List.{list_all}
use Rattle.std.specs.Fmt.{decimal}
use Rattle.std.proofs.lemmas.Bool.Decides.{nat_tests}
use Rattle.std.proofs.lemmas.List.{append_cancel_left, take_more}
use Rattle.std.proofs.lemmas.List.Sums.{fold-append}
use Rattle.std.proofs.lemmas.Str.Parse.{IsNumeralModel, numerals_by_fold}
use Rattle.std.proofs.lemmas.Fmt.{digits_decimal, digits_value-decimal, decimal_injective, decimal_digit, decimal_nonempty, first_decimal, decimal-digits_value}
use Rattle.sp_emit.specs.Reading.{heads, is_digit, with_digit, digits_value, is_plain, DigitsAt, NumberAt, LabelledAt}
use Rattle.sp_emit.proofs.Runs.{and_left, same_run}

-- these are digits and their number
own : IsNumeralModel (λ ds. list_all is_digit ds ≡ true) digits_value
own = numerals_by_fold _ (search rules) (λ n ds. fold with_digit n ds) (search rules)

-- two numbers in front of one text are one
pub decimal_one : (m n : ℕ) (r s : List ℕ) → m < 2 ^ 64 → n < 2 ^ 64 → heads is_digit r ≡ false → heads is_digit s ≡ false → decimal m ++ r ≡ decimal n ++ s → (m ≡ n) × (r ≡ s)
decimal_one m n r s a b c d e =
    let f : decimal m ≡ decimal n = same_run is_digit (decimal m) r (decimal n) s (digits_decimal own m a) (digits_decimal own n b) c d e in
    (decimal_injective m n a b f, append_cancel_left (decimal n) r s (subst (λ (l : List ℕ). l ++ r ≡ decimal n ++ s) f e))

-- digits grow a number
grows : (n : ℕ) (ds : List ℕ) → n ≤ fold with_digit n ds
grows n [] = omega arith
grows n (d ∷ ds) = let more : with_digit n d ≤ fold with_digit (with_digit n d) ds = grows (with_digit n d) ds in omega arith

-- the first digits write no greater number than all of them
pub first_digits : (ds : List ℕ) (i : ℕ) → digits_value (take i ds) ≤ digits_value ds
first_digits ds i =
    let whole : digits_value (take i ds ++ drop i ds) ≡ fold with_digit (digits_value (take i ds)) (drop i ds) = fold-append with_digit 0 (take i ds) (drop i ds) in
    let same : digits_value (take i ds ++ drop i ds) ≡ digits_value ds = ap digits_value (take-append-drop i ds) in
    let more : digits_value (take i ds) ≤ fold with_digit (digits_value (take i ds)) (drop i ds) = grows (digits_value (take i ds)) (drop i ds) in
    omega arith

plain_where : (ds : List ℕ) → 0 < length ds → (get_or ds 0 0 ≡ 48 → length ds ≡ 1) → is_plain ds ≡ true
plain_where [] h i = absurd (omega arith)
plain_where (b ∷ []) h i = refl
plain_where (b ∷ c ∷ ds) h i =
    let unequal : b ≢ 48 = λ e. absurd (let j : length (b ∷ c ∷ ds) ≡ 1 = i e in omega arith) in
    grind (arith, nat_tests)

-- a number is written as plain digits
plain_decimal : (n : ℕ) → n < 2 ^ 64 → is_plain (decimal n) ≡ true
plain_decimal n h = plain_where (decimal n) (decimal_nonempty n h) (λ e. one n h e)
  where
    one : (n : ℕ) → n < 2 ^ 64 → get_or (decimal n) 0 0 ≡ 48 → length (decimal n) ≡ 1
    one zero h e = ap length (decimal_digit 0 (omega arith))
    one (suc n) h e = absurd (let f : 48 < get_or (decimal (suc n)) 0 0 = first_decimal (suc n) (omega arith) h in omega arith)

plain_some : (ds : List ℕ) → is_plain ds ≡ true → 0 < length ds
plain_some [] h = cc
plain_some (b ∷ ds) h = omega arith

plain_alone : (ds : List ℕ) → is_plain ds ≡ true → get_or ds 0 0 ≡ 48 → length ds ≡ 1
plain_alone [] h e = cc
plain_alone (b ∷ []) h e = refl
plain_alone (b ∷ c ∷ ds) h e = grind (arith, nat_tests)

-- the digits in front of a text are those of a number in front of it
front_is : (most : ℕ) (text f rest : List ℕ) (n : ℕ) (r : List ℕ) → most < 2 ^ 64 → DigitsAt text f rest → NumberAt most text n r → f ≡ decimal n
front_is most text f rest n r h d a = same_run is_digit f rest (decimal n) r d.all (digits_decimal own n (let w : n ≤ most = a.within in omega arith)) d.ends a.ends (sym d.cut ∙ a.cut)

-- a number begins with a digit
pub decimal_heads : (n : ℕ) (r : List ℕ) → n < 2 ^ 64 → heads is_digit (decimal n ++ r) ≡ true
decimal_heads n r h = by (decimal n) (decimal_nonempty n h) (digits_decimal own n h)
  where
    by : (ds : List ℕ) → 0 < length ds → list_all is_digit ds ≡ true → heads is_digit (ds ++ r) ≡ true
    by [] some all = absurd (omega arith)
    by (d ∷ ds) some all = and_left (is_digit d) (list_all is_digit ds) all

module _ (most : ℕ) (text f rest : List ℕ) (h : most < 2 ^ 64) (d : DigitsAt text f rest) where
  pub none_unless_plain : is_plain f ≡ false → (n : ℕ) (r : List ℕ) → NumberAt most text n r → ⊥
  none_unless_plain p n r a =
      let e : f ≡ decimal n = front_is most text f rest n r h d a in
      let q : is_plain (decimal n) ≡ true = plain_decimal n (let w : n ≤ most = a.within in omega arith) in
      let i : is_plain f ≡ true = ap is_plain e ∙ q in
      cc

  pub none_past : most < digits_value f → (n : ℕ) (r : List ℕ) → NumberAt most text n r → ⊥
  none_past p n r a =
      let e : digits_value f ≡ digits_value (decimal n) = ap digits_value (front_is most text f rest n r h d a) in
      let w : n ≤ most = a.within in
      let v : digits_value (decimal n) ≡ n = digits_value-decimal own n (omega arith) in
      omega arith

  pub number_there : (n : ℕ) → is_plain f ≡ true → n ≡ digits_value f → n ≤ most → NumberAt most text n rest
  number_there n p v w =
      let e : decimal (digits_value f) ≡ f = decimal-digits_value own f d.all (plain_some f p) (plain_alone f p) (omega arith) in
      record {
        within = w;
        cut = d.cut ∙ ap (λ (l : List ℕ). l ++ rest) (sym e ∙ ap decimal (sym v));
        ends = d.ends;
      }

module _ (label : List ℕ) (most : ℕ) (text : List ℕ) where
  pub labelled : (rest : List ℕ) (n : ℕ) (r : List ℕ) → text ≡ label ++ rest → NumberAt most rest n r → LabelledAt label most text n r
  labelled rest n r e a = record { within = a.within; cut = e ∙ ap (λ (l : List ℕ). label ++ l) a.cut; ends = a.ends }

  pub unlabelled : (rest : List ℕ) (n : ℕ) (r : List ℕ) → text ≡ label ++ rest → LabelledAt label most text n r → NumberAt most rest n r
  unlabelled rest n r e a = record { within = a.within; cut = append_cancel_left label rest (decimal n ++ r) (sym e ∙ a.cut); ends = a.ends }

  pub labelled_one : most < 2 ^ 64 → (m n : ℕ) (r s : List ℕ) → LabelledAt label most text m r → LabelledAt label most text n s → (m ≡ n) × (r ≡ s)
  labelled_one h m n r s a b =
      decimal_one m n r s (let w : m ≤ most = a.within in omega arith) (let w : n ≤ most = b.within in omega arith) a.ends b.ends
      (append_cancel_left label (decimal m ++ r) (decimal n ++ s) (sym a.cut ∙ b.cut))

-- one digit more
pub digit_more : (ds : List ℕ) (i value : ℕ) → i < length ds → value ≡ digits_value (take i ds) → digits_value (take (i + 1) ds) ≡ with_digit value (get_or ds i 0)
digit_more ds i value inside e =
    ap digits_value (take_more ds i 0 inside) ∙ fold-append with_digit 0 (take i ds) (get_or ds i 0 ∷ [])
    ∙ sym (ap (λ (v : ℕ). with_digit v (get_or ds i 0)) e)
