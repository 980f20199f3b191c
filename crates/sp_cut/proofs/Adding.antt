-- The rows given and those left add up, after each call of a cutter.
use Rattle.std.proofs.Common.{◌≡◌, ℕ, ◌+◌, Bool, true, false, List, [], ◌∷◌, ◌++◌, map, refl, sym, ◌∙◌, ap, subst, append_assoc}
use Rattle.std.proofs.lemmas.List.{append-nil, map_push, length_push}
use Rattle.sp_cut.specs.CutRows.{CutRow, row, rows}
use Rattle.sp_cut.specs.Left.{Left, rows_left}
use Rattle.sp_cut.specs.Answer.{GivesRow, with_more}
use Rattle.sp_cut.specs.Growth.{AddsUp, RowsAddUp}

-- at the start
begun : AddsUp [] [] (record { bytes = []; given = 0; ended = false })
begun = record {
  count = refl;
  cut = ([], refl);
  whole = refl;
  coming = λ goes_on more ended. refl;
}

-- with bytes fed
with_fed : (fed : List ℕ) (given : List (List ℕ)) (left : Left) (piece : List ℕ) → left.ended ≡ false → AddsUp fed given left → AddsUp (fed ++ piece) given (record left { bytes = left.bytes ++ piece })
with_fed fed given left piece goes_on sum = record {
  count = sum.count;
  cut = (sum.cut.0, ap (λ (bytes : List ℕ). bytes ++ piece) sum.cut.1 ∙ append_assoc sum.cut.0 left.bytes piece);
  whole = subst (λ (e : Bool). rows (fed ++ piece) e ≡ map row given ++ rows_left (with_more left piece e)) (sym goes_on) (sum.coming goes_on piece false);
  coming = λ open_still more ended.
      ap (λ (bytes : List ℕ). rows bytes ended) (append_assoc fed piece more)
      ∙ sum.coming goes_on (piece ++ more) ended
      ∙ ap (λ (bytes : List ℕ). map row given ++ rows_left (record { bytes = bytes; given = left.given; ended = ended })) (sym (append_assoc left.bytes piece more));
}

-- rows in front of one more
one_row : (given : List (List ℕ)) (bytes : List ℕ) (cuts : List CutRow) → map row given ++ (row bytes ∷ cuts) ≡ map row (given ++ bytes ∷ []) ++ cuts
one_row given bytes cuts = sym (append_assoc (map row given) (row bytes ∷ []) cuts) ∙ ap (λ (cut : List CutRow). cut ++ cuts) (sym (map_push row given bytes))

-- with a row given
with_row : (fed : List ℕ) (given : List (List ℕ)) (left new : Left) (bytes : List ℕ) → GivesRow left bytes new → AddsUp fed given left → AddsUp fed (given ++ bytes ∷ []) new
with_row fed given left new bytes gives sum = record {
  count = gives.given ∙ ap (λ (n : ℕ). n + 1) sum.count ∙ sym (length_push given bytes);
  cut = (sum.cut.0 ++ gives.bytes_left.0, sum.cut.1 ∙ ap (λ (bytes : List ℕ). sum.cut.0 ++ bytes) gives.bytes_left.1 ∙ sym (append_assoc sum.cut.0 gives.bytes_left.0 new.bytes));
  whole =
      ap (rows fed) gives.ended
      ∙ sum.whole
      ∙ ap (λ (cuts : List CutRow). map row given ++ cuts) gives.first
      ∙ one_row given bytes (rows_left new);
  coming = λ goes_on more ended.
      let on : left.ended ≡ false = sym gives.ended ∙ goes_on in
      sum.coming on more ended
      ∙ ap (λ (cuts : List CutRow). map row given ++ cuts) (gives.coming on more ended)
      ∙ one_row given bytes (rows_left (with_more new more ended));
}

-- with the end
with_end : (fed : List ℕ) (given : List (List ℕ)) (left : Left) → AddsUp fed given left → AddsUp fed given (record left { ended = true })
with_end fed given left sum = record {
  count = sum.count;
  cut = sum.cut;
  whole = by left.ended refl;
  coming = λ goes_on. absurd (cc);
}
  where
    by : (e : Bool) → left.ended ≡ e → rows fed true ≡ map row given ++ rows_left (record left { ended = true })
    by true is = subst (λ (e : Bool). rows fed e ≡ map row given ++ rows_left (record left { ended = e })) is sum.whole
    by false is =
        ap (λ (bytes : List ℕ). rows bytes true) (sym (append-nil fed))
        ∙ sum.coming is [] true
        ∙ ap (λ (bytes : List ℕ). map row given ++ rows_left (record { bytes = bytes; given = left.given; ended = true })) (append-nil left.bytes)

-- each call keeps it so
pub rows_add_up : RowsAddUp
rows_add_up = record { begun = begun; fed = with_fed; gave = with_row; over = with_end }
