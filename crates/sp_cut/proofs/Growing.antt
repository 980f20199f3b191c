-- The rows of a growing input.
use Rattle.std.proofs.Common.{◌≡◌, ◌≤◌, ◌<◌, ℕ, ◌+◌, ◌-◌, ◌==◌, Bool, true, false, ◌&&◌, not, List, [], ◌∷◌, ◌++◌, length, take, drop, refl, sym, ◌∙◌, ap, subst, arith, length-append}
use Rattle.std.specs.Prelude.{if◌then◌else◌, slice_get}
use Rattle.std.specs.List.{onto_first}
use Rattle.std.specs.Cmp.Lexicographic.{same_text}
use Rattle.std.proofs.lemmas.Bool.Decides.{nat_tests}
use Rattle.std.proofs.lemmas.List.{append-nil, length-take}
use Rattle.sp_base.specs.Marks.{is_mark, without_mark}
use Rattle.sp_base.specs.Limits.{row_limit}
use Rattle.sp_cut.specs.CutRows.{CutRow, long_row, is_cr, is_long, without_cr, rows_of_parts, rest_rows, ended_part, plain_rows, rows}
use Rattle.sp_cut.specs.Left.{rows_left}
use Rattle.sp_cut.specs.Answer.{with_more}
use Rattle.sp_cut.specs.Growth.{IsFirst, RowsStay}
use Rattle.sp_cut.specs.Scan.{quoted_behind}
use Rattle.sp_cut.proofs.Parts.{parts_behind, parts_by_state, onto, onto_cons}

-- a carriage return is one byte
cr_size : (part : List ℕ) → (length (without_cr part) ≤ length part) × (length part ≤ length (without_cr part) + 1)
cr_size part = by (is_cr (slice_get part (length part - 1)))
  where
    by : (cr : Bool) → (length (if cr then take (length part - 1) part else part) ≤ length part) × (length part ≤ length (if cr then take (length part - 1) part else part) + 1)
    by true = (omega (arith, length-take (length part - 1) part), omega (arith, length-take (length part - 1) part))
    by false = (omega arith, omega arith)

-- a part that is too long stays so
long_stays : (part more : List ℕ) → is_long part ≡ true → is_long (part ++ more) ≡ true
long_stays part [] long = ap is_long (append-nil part) ∙ long
long_stays part (b ∷ bs) long =
    let size : row_limit < length (without_cr part) = grind (arith, nat_tests) in
    let short = (cr_size part).0 in
    let far = (cr_size (part ++ b ∷ bs)).1 in
    let whole = length-append part (b ∷ bs) in
    let more : row_limit < length (without_cr (part ++ b ∷ bs)) = omega arith in
    grind (arith, nat_tests)

-- bytes in front of parts that one more byte leads
onto_push : (front : List ℕ) (b : ℕ) (parts : List (List ℕ)) → onto front (onto_first b parts) ≡ onto (front ++ b ∷ []) parts
onto_push [] b parts = refl
onto_push (x ∷ xs) b parts = ap (onto_first x) (onto_push xs b parts)

-- parts of which there is a first
pub record HasFirst (parts : List (List ℕ)) : Type 0 where
  pub first : List ℕ
  pub others : List (List ℕ)
  pub is : parts ≡ first ∷ others

-- bytes have a first part
has_first : (quoted : Bool) (bytes : List ℕ) → HasFirst (parts_behind quoted bytes)
has_first quoted [] = record { first = []; others = []; is = refl }
has_first quoted (b ∷ bs) = by (b == 10 && not quoted) (parts_behind (quoted_behind quoted b) bs)
  where
    by : (ends : Bool) (parts : List (List ℕ)) → HasFirst (if ends then [] ∷ parts else onto_first b parts)
    by true parts = record { first = []; others = parts; is = refl }
    by false [] = record { first = b ∷ []; others = []; is = refl }
    by false (part ∷ parts) = record { first = b ∷ part; others = parts; is = refl }

-- a row in front of parts of which there is a first
row_in_front : (ended : Bool) (part : List ℕ) (parts : List (List ℕ)) → HasFirst parts → rows_of_parts ended (part ∷ parts) ≡ ended_part part ∷ rows_of_parts ended parts
row_in_front ended part [] has = absurd (by has.is)
  where
    by : [] ≡ has.first ∷ has.others → ⊥
    by is = cc
row_in_front ended part (next ∷ parts) has = refl

-- the rest of an input that goes on stays the first row where it is one
rest_stays : (front : List ℕ) (ended : Bool) (parts : List (List ℕ)) → HasFirst parts → IsFirst (rows_of_parts false (onto front ([] ∷ []))) (rows_of_parts ended (onto front parts))
rest_stays front ended parts has =
    let rest : rows_of_parts false (onto front ([] ∷ [])) ≡ rest_rows false front = ap (rows_of_parts false) (onto_cons front [] []) ∙ ap (rest_rows false) (append-nil front) in
    let whole : rows_of_parts ended (onto front parts) ≡ rows_of_parts ended ((front ++ has.first) ∷ has.others) = ap (rows_of_parts ended) (ap (onto front) has.is ∙ onto_cons front has.first has.others) in
    let by_parts = by (is_long front) refl in
    (by_parts.0, whole ∙ by_parts.1 ∙ ap (λ (first : List CutRow). first ++ by_parts.0) (sym rest))
  where
    at_long : (part : List ℕ) (others : List (List ℕ)) → is_long part ≡ true → IsFirst (long_row ∷ []) (rows_of_parts ended (part ∷ others))
    at_long part [] long = ([], rw long refl)
    at_long part (next ∷ others) long = (rows_of_parts ended (next ∷ others), rw long refl)

    by : (long : Bool) → is_long front ≡ long → IsFirst (rest_rows false front) (rows_of_parts ended ((front ++ has.first) ∷ has.others))
    by true long = rw long (at_long (front ++ has.first) has.others (long_stays front has.first long))
    by false short = rw short (rows_of_parts ended ((front ++ has.first) ∷ has.others), refl)

-- one byte more in front, where it ends a row or doesn't
one_more : (front : List ℕ) (b : ℕ) (ended : Bool) (parts longer : List (List ℕ)) → HasFirst parts → HasFirst longer →
    IsFirst (rows_of_parts false parts) (rows_of_parts ended longer) →
    IsFirst (rows_of_parts false (onto (front ++ b ∷ []) parts)) (rows_of_parts ended (onto (front ++ b ∷ []) longer)) →
    (ends : Bool) → IsFirst (rows_of_parts false (onto front (if ends then [] ∷ parts else onto_first b parts))) (rows_of_parts ended (onto front (if ends then [] ∷ longer else onto_first b longer)))
one_more front b ended parts longer some more fresh going true =
    let at : (e : Bool) (ps : List (List ℕ)) → HasFirst ps → rows_of_parts e (onto front ([] ∷ ps)) ≡ ended_part front ∷ rows_of_parts e ps =
    λ e ps has. ap (rows_of_parts e) (onto_cons front [] ps ∙ ap (λ (part : List ℕ). part ∷ ps) (append-nil front)) ∙ row_in_front e front ps has in
    (fresh.0, at ended longer more ∙ ap (λ (rows : List CutRow). ended_part front ∷ rows) fresh.1 ∙ ap (λ (rows : List CutRow). rows ++ fresh.0) (sym (at false parts some)))
one_more front b ended parts longer some more fresh going false =
    (going.0, ap (rows_of_parts ended) (onto_push front b longer) ∙ going.1 ∙ ap (λ (rows : List CutRow). rows ++ going.0) (sym (ap (rows_of_parts false) (onto_push front b parts))))

-- the rows stay, by the bytes of the unfinished row so far
grows_behind : (front : List ℕ) (quoted : Bool) (bytes more : List ℕ) (ended : Bool) → IsFirst (rows_of_parts false (onto front (parts_behind quoted bytes))) (rows_of_parts ended (onto front (parts_behind quoted (bytes ++ more))))
grows_behind front quoted [] more ended = rest_stays front ended (parts_behind quoted more) (has_first quoted more)
grows_behind front quoted (b ∷ bs) more ended =
    let next = quoted_behind quoted b in
    one_more front b ended (parts_behind next bs) (parts_behind next (bs ++ more)) (has_first next bs) (has_first next (bs ++ more)) (grows_behind [] next bs more ended) (grows_behind (front ++ b ∷ []) next bs more ended) (b == 10 && not quoted)

-- the rows stay where no mark is dropped
plain_grows : (bytes more : List ℕ) (ended : Bool) → IsFirst (plain_rows bytes false) (plain_rows (bytes ++ more) ended)
plain_grows bytes more ended =
    let grown = grows_behind [] false bytes more ended in
    (grown.0, ap (rows_of_parts ended) (parts_by_state [] (bytes ++ more) false refl) ∙ grown.1 ∙ ap (λ (rows : List CutRow). rows ++ grown.0) (sym (ap (rows_of_parts false) (parts_by_state [] bytes false refl))))

-- the rows stay with the mark at the start dropped, also where it is not whole yet
grows : (bytes more : List ℕ) (ended : Bool) → IsFirst (rows bytes false) (rows (bytes ++ more) ended)
grows [] more ended = (rows more ended, refl)
grows (a ∷ []) more ended = by (is_mark (take 3 (a ∷ more))) refl
  where
    kept : without_mark (a ∷ []) ≡ a ∷ []
    kept = by (a == 239)
      where
        by : (m : Bool) → (if m && false then [] else a ∷ []) ≡ a ∷ []
        by true = refl
        by false = refl

    by : (m : Bool) → is_mark (take 3 (a ∷ more)) ≡ m → IsFirst (rows (a ∷ []) false) (plain_rows (if m then drop 3 (a ∷ more) else a ∷ more) ended)
    by true marked =
        let front : a ∷ take 2 more ≡ 239 ∷ 187 ∷ 191 ∷ [] = same_text (take 3 (a ∷ more)) (239 ∷ 187 ∷ 191 ∷ []) (sym marked) in
        let first : 239 ≡ a = cc in
        (plain_rows (drop 3 (a ∷ more)) ended, λ i. rows (first i ∷ []) false ++ plain_rows (drop 3 (a ∷ more)) ended)
    by false other =
        let grown = plain_grows (a ∷ []) more ended in
        (grown.0, grown.1 ∙ ap (λ (bytes : List ℕ). plain_rows bytes false ++ grown.0) (sym kept))
grows (a ∷ b ∷ []) more ended = by (is_mark (take 3 (a ∷ b ∷ more))) refl
  where
    kept : without_mark (a ∷ b ∷ []) ≡ a ∷ b ∷ []
    kept = by (a == 239) (b == 187)
      where
        by : (m n : Bool) → (if m && (n && false) then [] else a ∷ b ∷ []) ≡ a ∷ b ∷ []
        by true true = refl
        by true false = refl
        by false n = refl

    by : (m : Bool) → is_mark (take 3 (a ∷ b ∷ more)) ≡ m → IsFirst (rows (a ∷ b ∷ []) false) (plain_rows (if m then drop 3 (a ∷ b ∷ more) else a ∷ b ∷ more) ended)
    by true marked =
        let front : a ∷ b ∷ take 1 more ≡ 239 ∷ 187 ∷ 191 ∷ [] = same_text (take 3 (a ∷ b ∷ more)) (239 ∷ 187 ∷ 191 ∷ []) (sym marked) in
        let first : 239 ≡ a = cc in
        let second : 187 ≡ b = cc in
        (plain_rows (drop 3 (a ∷ b ∷ more)) ended, λ i. rows (first i ∷ second i ∷ []) false ++ plain_rows (drop 3 (a ∷ b ∷ more)) ended)
    by false other =
        let grown = plain_grows (a ∷ b ∷ []) more ended in
        (grown.0, grown.1 ∙ ap (λ (bytes : List ℕ). plain_rows bytes false ++ grown.0) (sym kept))
grows (a ∷ b ∷ c ∷ rest) more ended = by (is_mark (a ∷ b ∷ c ∷ []))
  where
    by : (m : Bool) → IsFirst (plain_rows (if m then rest else a ∷ b ∷ c ∷ rest) false) (plain_rows (if m then rest ++ more else a ∷ b ∷ c ∷ (rest ++ more)) ended)
    by true = plain_grows rest more ended
    by false = plain_grows (a ∷ b ∷ c ∷ rest) more ended

-- the rows left of an input that goes on stay the first
pub rows_stay : RowsStay
rows_stay left more ended goes_on = subst (λ (e : Bool). IsFirst (if left.given == 0 then rows left.bytes e else plain_rows left.bytes e) (rows_left (with_more left more ended))) (sym goes_on) (by (left.given == 0))
  where
    by : (first : Bool) → IsFirst (if first then rows left.bytes false else plain_rows left.bytes false) (if first then rows (left.bytes ++ more) ended else plain_rows (left.bytes ++ more) ended)
    by true = grows left.bytes more ended
    by false = plain_grows left.bytes more ended
