-- What is answered, by what the next row is.
use Rattle.std.proofs.Common.{◌≡◌, ℕ, ◌+◌, ◌==◌, Bool, true, false, not, List, [], ◌∷◌, ◌++◌, length, take, drop, refl, sym, ◌∙◌, ap, arith}
use Rattle.std.specs.Prelude.{if◌then◌else◌, Some}
use Rattle.std.proofs.lemmas.List.{take-append-drop, take-append-le, drop-append-le, drop_all}
use Rattle.sp_base.specs.Marks.{without_mark}
use Rattle.sp_cut.specs.CutRows.{CutRow, row, long_row, is_even, is_long, without_cr, rest_rows, ended_part, plain_rows}
use Rattle.sp_cut.specs.Left.{Left, rows_left}
use Rattle.sp_cut.specs.Answer.{GivesRow, Begins, with_more}
use Rattle.sp_cut.specs.Part.{part_of, left_behind}
use Rattle.sp_cut.specs.Scan.{scan, EndsAt}
use Rattle.sp_cut.specs.Span.{LiesNext}
use Rattle.sp_cut.proofs.Going.{ends_within, ends_still}
use Rattle.sp_cut.proofs.Given.{first_left, rest_left, rest_even, left_behind_is}

-- a row is given where it is the first of those left
gives_row : (old new : Left) (bytes : List ℕ) (taken : ℕ) → rows_left old ≡ row bytes ∷ rows_left (left_behind old taken) →
    (old.ended ≡ false → (more : List ℕ) (ended : Bool) → rows_left (with_more old more ended) ≡ row bytes ∷ rows_left (with_more (left_behind old taken) more ended)) →
    new ≡ left_behind old taken → GivesRow old bytes new
gives_row old new bytes taken first coming is = record {
  first = first ∙ ap (λ (left : Left). row bytes ∷ rows_left left) (sym is);
  coming = λ goes_on more ended. coming goes_on more ended ∙ ap (λ (left : Left). row bytes ∷ rows_left (with_more left more ended)) (sym is);
  given = ap (λ (left : Left). left.given) is;
  ended = ap (λ (left : Left). left.ended) is;
  bytes_left = (take taken old.bytes, sym (take-append-drop taken old.bytes) ∙ ap (λ (left : Left). take taken old.bytes ++ left.bytes) (sym is));
}

-- the row that a line feed ends is the first with all bytes that may come
row_coming : (old : Left) (size : ℕ) (bytes more : List ℕ) (ended : Bool) → EndsAt false old.bytes size → ended_part (part_of old size) ≡ row bytes →
    rows_left (with_more old more ended) ≡ row bytes ∷ rows_left (with_more (left_behind old (size + 1)) more ended)
row_coming old size bytes more ended ends cut =
    let within = ends_within old.bytes size false ends in
    let front : take size (old.bytes ++ more) ≡ take size old.bytes = take-append-le size old.bytes more (omega arith) in
    let back : drop (size + 1) (old.bytes ++ more) ≡ drop (size + 1) old.bytes ++ more = drop-append-le (size + 1) old.bytes more within in
    let part : ended_part (part_of (with_more old more ended) size) ≡ row bytes =
    ap (λ (xs : List ℕ). ended_part (if old.given == 0 then without_mark xs else xs)) front ∙ cut in
    let new : left_behind (with_more old more ended) (size + 1) ≡ with_more (left_behind old (size + 1)) more ended =
    ap (λ (xs : List ℕ). with_bytes (left_behind (with_more old more ended) (size + 1)) xs) back in
    first_left (with_more old more ended) size (ends_still old.bytes more size ends) ∙ (λ i. part i ∷ rows_left (new i))
  where
    with_bytes : Left → List ℕ → Left
    with_bytes left xs = record left { bytes = xs }

-- the row that a line feed ends is given
pub row_given : (old mid new : Left) (size : ℕ) (bytes : List ℕ) → EndsAt false old.bytes size → mid ≡ old → ended_part (part_of mid size) ≡ row bytes → new ≡ left_behind mid (size + 1) → GivesRow old bytes new
row_given old mid new size bytes ends same is after =
    let cut : ended_part (part_of old size) ≡ row bytes = ap (λ (left : Left). ended_part (part_of left size)) (sym same) ∙ is in
    gives_row old new bytes (size + 1)
    (first_left old size ends ∙ ap (λ (first : CutRow). first ∷ rows_left (left_behind old (size + 1))) cut)
    (λ goes_on more ended. row_coming old size bytes more ended ends cut)
    (after ∙ ap (λ (left : Left). left_behind left (size + 1)) same)

-- the row that a line feed ends lies there
pub lies_ended : (old mid : Left) (size : ℕ) → EndsAt false old.bytes size → mid ≡ old → is_long (part_of mid size) ≡ false → LiesNext old (record { size = size; feeds = 1 })
lies_ended old mid size ends same short =
    let part : is_long (part_of old size) ≡ false = ap (λ (left : Left). is_long (part_of left size)) (sym same) ∙ short in
    record {
      within = ends_within old.bytes size false ends;
      gives = row_given old old (left_behind old (size + 1)) size (without_cr (part_of old size)) ends refl (rw part refl) refl;
    }

-- the row that a line feed ends is too long
pub long_ended : (old mid : Left) (size : ℕ) → EndsAt false old.bytes size → mid ≡ old → is_long (part_of mid size) ≡ true → Begins old long_row
long_ended old mid size ends same long =
    let part : is_long (part_of old size) ≡ true = ap (λ (left : Left). is_long (part_of left size)) (sym same) ∙ long in
    let cut : ended_part (part_of old size) ≡ long_row = rw part refl in
    (rows_left (left_behind old (size + 1)), first_left old size ends ∙ ap (λ (first : CutRow). first ∷ rows_left (left_behind old (size + 1))) cut)

-- the rows left where no line feed ends one
pub rest_answer : (old : Left) (size : ℕ) (quoted ended : Bool) (part : List ℕ) (cuts : List CutRow) → scan false old.bytes ≡ Some quoted → size ≡ length old.bytes → part ≡ part_of old size → ended ≡ old.ended → rest_rows ended part ≡ cuts → rows_left old ≡ cuts
rest_answer old size quoted ended part cuts is all part_is same answer =
    let whole : part_of old (length old.bytes) ≡ part = ap (part_of old) (sym all) ∙ sym part_is in
    rest_left old quoted is ∙ ap (λ (e : Bool). rest_rows e (part_of old (length old.bytes))) (sym same) ∙ ap (rest_rows ended) whole ∙ answer

-- the parity of the quotes in the rest
pub rest_quoted : (old : Left) (size : ℕ) (quoted : Bool) (part : List ℕ) → scan false old.bytes ≡ Some quoted → size ≡ length old.bytes → part ≡ part_of old size → is_even part ≡ not quoted
rest_quoted old size quoted part is all part_is = ap is_even (part_is ∙ ap (part_of old) all) ∙ rest_even old quoted is

-- no bytes are no row
no_rows : (ended : Bool) → plain_rows [] ended ≡ []
no_rows true = refl
no_rows false = refl

-- a rest is a row only where the input ended
rest_waits : (part bytes : List ℕ) → rest_rows false part ≡ row bytes ∷ [] → ⊥
rest_waits part bytes is = by (is_long part) is
  where
    by : (long : Bool) → (if long then long_row ∷ [] else []) ≡ row bytes ∷ [] → ⊥
    by true is = cc
    by false is = cc

-- the rest lies there as a row
pub lies_rest : (old : Left) (size : ℕ) (part : List ℕ) (ended : Bool) → ended ≡ old.ended → rest_rows ended part ≡ row (without_cr part) ∷ [] → size ≡ length old.bytes → part ≡ part_of old size → rows_left old ≡ row (without_cr part) ∷ [] → LiesNext old (record { size = size; feeds = 0 })
lies_rest old size part ended same_end rest all part_is rows =
    let own : without_cr part ≡ without_cr (part_of old size) = ap without_cr part_is in
    let none : rows_left (left_behind old (size + 0)) ≡ [] =
    left_behind_is old (size + 0) ∙ ap (λ (more : List ℕ). plain_rows more old.ended) (drop_all (size + 0) old.bytes (omega arith)) ∙ no_rows old.ended in
    record {
      within = omega arith;
      gives = gives_row old (left_behind old (size + 0)) (without_cr (part_of old size)) (size + 0) (rows ∙ (λ i. row (own i) ∷ sym none i))
          (λ goes_on more ends. absurd (rest_waits part (without_cr part) (ap (λ (e : Bool). rest_rows e part) (sym (same_end ∙ goes_on)) ∙ rest)))
          refl;
    }
