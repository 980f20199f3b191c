-- One event more.
use Rattle.std.proofs.Common.{◌≡◌, ℕ, ◌+◌, List, [], ◌∷◌, ◌++◌, map, sym, ◌∙◌, ap, arith, append-nil, add-one}
use Rattle.std.specs.Prelude.{codes}
use Rattle.std.specs.List.{flat_map, range_with_len}
use Rattle.std.proofs.lemmas.Grind.{flat_map-append}
use Rattle.std.proofs.lemmas.List.FromFn.{map-range_with_len_more}
use Rattle.sp_gen.specs.Generated.{next, drawn, row_text, generated}

-- the row of an event
abbrev row_of : ℕ → ℕ → List ℕ
row_of seed event = row_text event (drawn seed event)

abbrev with_feed : List ℕ → List ℕ
with_feed line = line ++ codes "\n"

-- a text of one event more has that event's row behind the others
one_more : (n seed : ℕ) → generated (n + 1) seed ≡ generated n seed ++ with_feed (row_of seed (n + 1))
one_more n seed =
    let rows = map (row_of seed) (range_with_len 1 n) in
    let more : map (row_of seed) (range_with_len 1 (n + 1)) ≡ rows ++ row_of seed (n + 1) ∷ [] =
    map-range_with_len_more (row_of seed) 1 n (n + 1) (omega arith) in
    ap (λ rows. flat_map with_feed (codes "at,sym,price,size" ∷ rows)) more
    ∙ flat_map-append with_feed (codes "at,sym,price,size" ∷ rows) (row_of seed (n + 1) ∷ [])
    ∙ ap (λ last. generated n seed ++ last) (append-nil (with_feed (row_of seed (n + 1))))

-- a number that is drawn behind an event's is the next event's
next_drawn : (n seed x y : ℕ) → x ≡ drawn seed n → y ≡ next x → y ≡ drawn seed (n + 1)
next_drawn n seed x y same is = is ∙ ap next same ∙ ap (drawn seed) (sym (add-one n))

-- a row that is added to the rows of so many events, with the number that is drawn for it
pub goes_on : (n seed x y : ℕ) (old new : List ℕ) → (old ≡ generated n seed) × (x ≡ drawn seed n) → y ≡ next x
    → new ≡ old ++ with_feed (row_text (n + 1) y) → (new ≡ generated (n + 1) seed) × (y ≡ drawn seed (n + 1))
goes_on n seed x y old new (text, same) is more =
    let number : y ≡ drawn seed (n + 1) = next_drawn n seed x y same is in (
      more ∙ ap (λ text. text ++ with_feed (row_text (n + 1) y)) text
          ∙ ap (λ z. generated n seed ++ with_feed (row_text (n + 1) z)) number ∙ sym (one_more n seed),
      number,
    )
