-- Digits with and without a point.
use Rattle.std.proofs.Common.{◌≡◌, ◌≢◌, ◌<◌, ◌≤◌, ◌+◌, ◌==◌, inl, inr, ℕ, true, false, ◌&&◌, eqb, Bool, List, [], ◌∷◌, ◌++◌, length, length-take, take, drop, get_or, take-append-drop, None, refl, sym, ◌∙◌, ap, subst, arith}
use Rattle.std.specs.Prelude.{Option, if◌then◌else◌, nat_lt}
use Rattle.std.specs.List.{All, list_all, slice_split, join_with_byte, onto_first}
use Rattle.std.proofs.lemmas.Bool.{cases_Bool, and_parts}
use Rattle.std.proofs.lemmas.Bool.Decides.{nat_tests}
use Rattle.std.proofs.lemmas.List.Elements.{All-weaker}
use Rattle.std.proofs.lemmas.List.Sums.{AllPass-from_list_all}
use Rattle.std.proofs.lemmas.List.{drop_more}
use Rattle.std.proofs.lemmas.List.Splits.{join_with_byte-slice_split, length-slice_split, slice_split-cons_yes, slice_split-cons_no}
use Rattle.sp_rows.specs.Numbers.{is_digit, are_digits, digits_value, decimals_to, within_bound, units_of, unsigned}
use Rattle.sp_rows.specs.Capped.{with_more}
use Rattle.sp_rows.proofs.Cuts.{one_part, first_part}
use Rattle.sp_rows.proofs.Digits.{in_two}
use Rattle.sp_rows.proofs.Parts.{no_point}

digit_no_point : (b : ℕ) → is_digit b ≡ true → b ≢ 46
digit_no_point b digit same = grind (arith, nat_tests)

-- digits have no point among them
digits_alone : (digits : List ℕ) → are_digits digits ≡ true → All (λ b. b ≢ 46) digits
digits_alone digits are =
    let both = and_parts (nat_lt 0 (length digits)) (list_all is_digit digits) are in
    All-weaker (λ b. is_digit b ≡ true) (λ b. b ≢ 46) (λ b digit. digit_no_point b digit) digits (AllPass-from_list_all is_digit digits both.1)

-- a number without decimals
pub whole_number : (scale : ℕ) (digits : List ℕ) (value : ℕ) → are_digits digits ≡ true → value ≡ with_more 0 digits → within_bound (with_more value (decimals_to scale [])) ≡ unsigned scale digits
whole_number scale digits value are is =
    ap (λ (n : ℕ). within_bound (with_more n (decimals_to scale []))) is
    ∙ in_two digits (decimals_to scale [])
    ∙ sym (no_point scale digits (digits_alone digits are) ∙ rw are refl)

off : (a z : Bool) (o : Option ℕ) → (if (a && false && z) then o else None) ≡ None
off true z o = refl
off false z o = refl

-- no digits behind the point
no_decimals : (scale : ℕ) (whole decimals : List ℕ) → are_digits decimals ≡ false → units_of scale (whole ∷ decimals ∷ []) ≡ None
no_decimals scale whole decimals other =
    rw other (off (are_digits whole) (list_all (λ b. b == 48) (drop scale decimals)) (within_bound (digits_value (whole ++ decimals_to scale decimals))))

-- parts behind the point that are no digits together
no_parts : (scale : ℕ) (whole decimals : List ℕ) (parts : List (List ℕ)) → 0 < length parts → join_with_byte 46 parts ≡ decimals → are_digits decimals ≡ false → units_of scale (whole ∷ parts) ≡ None
no_parts scale whole decimals [] some is other = absurd (omega arith)
no_parts scale whole decimals (part ∷ []) some is other = no_decimals scale whole part (ap are_digits is ∙ other)
no_parts scale whole decimals (part ∷ more ∷ parts) some is other = refl

-- what stands behind the first point is the decimals, or there is no number
behind_point : (scale : ℕ) (whole decimals : List ℕ) → units_of scale (whole ∷ slice_split (λ b. b == 46) decimals) ≡ units_of scale (whole ∷ decimals ∷ [])
behind_point scale whole decimals = elim (cases_Bool (are_digits decimals)) [
  | inl are ↦ ap (λ (parts : List (List ℕ)). units_of scale (whole ∷ parts)) (one_part 46 decimals (digits_alone decimals are))
  | inr other ↦
      no_parts scale whole decimals (slice_split (λ b. b == 46) decimals) (omega (arith, length-slice_split (λ b. eqb b 46) decimals)) (join_with_byte-slice_split 46 decimals) other
      ∙ sym (no_decimals scale whole decimals other)
]

-- a number with a point
pub at_point : (scale : ℕ) (digits whole decimals : List ℕ) → digits ≡ whole ++ 46 ∷ decimals → All (λ b. b ≢ 46) whole → units_of scale (whole ∷ decimals ∷ []) ≡ unsigned scale digits
at_point scale digits whole decimals is first = sym (ap (unsigned scale) is ∙ ap (units_of scale) (first_part 46 whole decimals first) ∙ behind_point scale whole decimals)

-- at the front no digits write a number
bad_whole : (scale : ℕ) (whole : List ℕ) (parts : List (List ℕ)) → are_digits whole ≡ false → units_of scale (whole ∷ parts) ≡ None
bad_whole scale whole [] other = rw other refl
bad_whole scale whole (decimals ∷ []) other = rw other refl
bad_whole scale whole (decimals ∷ more ∷ parts) other = refl

-- the first of the parts has a byte that is no digit
abbrev FirstFails : List (List ℕ) → Type 0
FirstFails [] = ⊥
FirstFails (part ∷ parts) = list_all is_digit part ≡ false

and_off : (b : Bool) → (b && false) ≡ false
and_off true = refl
and_off false = refl

fails_none : (scale : ℕ) (parts : List (List ℕ)) → FirstFails parts → units_of scale parts ≡ None
fails_none scale [] fails = absurd fails
fails_none scale (part ∷ parts) fails = bad_whole scale part parts (rw fails (and_off (nat_lt 0 (length part))))

fails_here : (b : ℕ) (parts : List (List ℕ)) → 0 < length parts → is_digit b ≡ false → FirstFails (onto_first b parts)
fails_here b [] some other = absurd (omega arith)
fails_here b (part ∷ parts) some other = rw other refl

fails_behind : (b : ℕ) (parts : List (List ℕ)) → FirstFails parts → FirstFails (onto_first b parts)
fails_behind b [] fails = absurd fails
fails_behind b (part ∷ parts) fails = rw fails (and_off (is_digit b))

-- behind digits a byte that is neither a digit nor a point
stuck : (front : List ℕ) (b : ℕ) (back : List ℕ) → list_all is_digit front ≡ true → is_digit b ≡ false → eqb b 46 ≡ false → FirstFails (slice_split (λ b. b == 46) (front ++ b ∷ back))
stuck [] b back are other no_point =
    subst FirstFails (sym (slice_split-cons_no (λ b. eqb b 46) b back no_point)) (fails_here b (slice_split (λ b. eqb b 46) back) (omega (arith, length-slice_split (λ b. eqb b 46) back)) other)
stuck (f ∷ front) b back are other no_point =
    let both = and_parts (is_digit f) (list_all is_digit front) are in
    let differs : eqb f 46 ≡ false = let ne = digit_no_point f both.0 in grind (arith, nat_tests, ne) in
    subst FirstFails (sym (slice_split-cons_no (λ b. eqb b 46) f (front ++ b ∷ back) differs)) (fails_behind f (slice_split (λ b. eqb b 46) (front ++ b ∷ back)) (stuck front b back both.1 other no_point))

-- the bytes before a place, the one there, and those behind it
parted : (digits : List ℕ) (count : ℕ) → count < length digits → digits ≡ take count digits ++ (get_or digits count 0 ∷ drop (count + 1) digits)
parted digits count inside = sym (take-append-drop count digits) ∙ ap (λ (l : List ℕ). take count digits ++ l) (drop_more digits count 0 inside)

-- such a byte behind the digits at the front leaves no number
pub stuck_at : (scale : ℕ) (digits : List ℕ) (count : ℕ) → count < length digits → list_all is_digit (take count digits) ≡ true → is_digit (get_or digits count 0) ≡ false → get_or digits count 0 ≢ 46 → unsigned scale digits ≡ None
stuck_at scale digits count inside are other no_point =
    let differs : eqb (get_or digits count 0) 46 ≡ false = grind (arith, nat_tests, no_point) in
    ap (unsigned scale) (parted digits count inside)
    ∙ fails_none scale (slice_split (λ b. b == 46) (take count digits ++ (get_or digits count 0 ∷ drop (count + 1) digits))) (stuck (take count digits) (get_or digits count 0) (drop (count + 1) digits) are other differs)

-- bytes that begin with no digit write no number
pub no_digit_first : (scale : ℕ) (digits : List ℕ) → (0 < length digits → is_digit (get_or digits 0 0) ≡ false) → unsigned scale digits ≡ None
no_digit_first scale [] other = refl
no_digit_first scale (b ∷ bytes) other = elim (cases_Bool (eqb b 46)) [
  | inl point ↦ ap (units_of scale) (slice_split-cons_yes (λ b. eqb b 46) b bytes point) ∙ bad_whole scale [] (slice_split (λ b. eqb b 46) bytes) refl
  | inr none ↦ fails_none scale (slice_split (λ b. b == 46) (b ∷ bytes)) (stuck [] b bytes refl (other (omega arith)) none)
]

-- the digits before a place behind the first one are digits
pub digits_front : (digits : List ℕ) (count : ℕ) → count ≤ length digits → count ≢ 0 → list_all is_digit (take count digits) ≡ true → are_digits (take count digits) ≡ true
digits_front digits count within some are =
    let long : length (take count digits) ≡ count = omega (arith, length-take count digits) in
    let more : nat_lt 0 (length (take count digits)) ≡ true = grind (arith, nat_tests, long, some) in
    rw (more, are) refl

-- a point behind the digits at the front
pub point_at : (scale : ℕ) (digits : List ℕ) (count : ℕ) → count < length digits → are_digits (take count digits) ≡ true → get_or digits count 0 ≡ 46 → units_of scale (take count digits ∷ drop (count + 1) digits ∷ []) ≡ unsigned scale digits
point_at scale digits count inside are point =
    at_point scale digits (take count digits) (drop (count + 1) digits) (parted digits count inside ∙ ap (λ (b : ℕ). take count digits ++ (b ∷ drop (count + 1) digits)) point) (digits_alone (take count digits) are)
