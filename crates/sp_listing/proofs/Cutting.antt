-- Texts cut behind their line feeds.
use Rattle.std.proofs.Common.{◌≡◌, ◌≢◌, ℕ, ◌+◌, ◌<◌, Bool, true, false, ◌==◌, List, [], ◌∷◌, ◌++◌, length, take, drop, get_or, Some, None, refl, sym, ◌∙◌, ap, subst, arith, add-one, length-drop, length-take}
use Rattle.std.specs.Prelude.{if◌then◌else◌}
use Rattle.std.specs.List.{All, flat_map, onto_first}
use Rattle.std.proofs.Math.Seq.{split_at}
use Rattle.std.proofs.lemmas.Bool.Decides.{nat_tests}
use Rattle.std.proofs.lemmas.List.{take_more, take_all, drop_all, get_or-take}
use Rattle.std.proofs.lemmas.List.Elements.{All-head, All-tail, All-from_get_or}
use Rattle.memchr.specs.Find.{IsFirstByte, is_byte}
use Rattle.sp_listing.specs.Lines.{lines}
use Rattle.sp_listing.specs.Reading.{IsFirstLine}

-- the byte is no line feed
abbrev pub IsInner : ℕ → Type 0
IsInner b = (b == 10) ≡ false

-- one byte in front of a text, which is no line feed
one_more : (b : ℕ) (bs : List ℕ) → IsInner b → lines (b ∷ bs) ≡ onto_first b (lines bs)
one_more b bs inner = ap (λ (feed : Bool). if feed then (b ∷ []) ∷ lines bs else onto_first b (lines bs)) inner

-- a line and its line feed in front of a text
pub line_cut : (front rest : List ℕ) → All IsInner front → lines (front ++ 10 ∷ rest) ≡ (front ++ 10 ∷ []) ∷ lines rest
line_cut [] rest h = refl
line_cut (b ∷ front) rest h =
    one_more b (front ++ 10 ∷ rest) (All-head IsInner b front h) ∙ ap (onto_first b) (line_cut front rest (All-tail IsInner b front h))

-- a text without a line feed is one line
one_line : (b : ℕ) (bs : List ℕ) → All IsInner (b ∷ bs) → lines (b ∷ bs) ≡ (b ∷ bs) ∷ []
one_line b [] h = one_more b [] (All-head IsInner b [] h)
one_line b (c ∷ bs) h = one_more b (c ∷ bs) (All-head IsInner b (c ∷ bs) h) ∙ ap (onto_first b) (one_line c bs (All-tail IsInner b (c ∷ bs) h))

inner : (b : ℕ) → (is_byte 10 b ≡ true → ⊥) → IsInner b
inner b fails = grind (arith, nat_tests)

feed : (b : ℕ) → is_byte 10 b ≡ true → b ≡ 10
feed b is = grind (arith, nat_tests)

-- the part up to the first line feed
module _ (text : List ℕ) (at : ℕ) (first : IsFirstByte (is_byte 10) text (Some at)) where
  free : All IsInner (take at text)
  free = All-from_get_or IsInner (take at text) 0 (λ i h. by i (omega (arith, h, length-take at text)))
    where
      by : (i : ℕ) → i < at → IsInner (get_or (take at text) i 0)
      by i below = subst IsInner (sym (get_or-take at text i 0 below)) (inner (get_or text i 0) (first.0.before i (omega arith) below))

  ends : get_or text at 0 ≡ 10
  ends = feed (get_or text at 0) first.1

  -- where the first line feed was found
  pub found_line : (line rest : List ℕ) → line ≡ take (at + 1) text → rest ≡ drop (at + 1) text → IsFirstLine text line rest
  found_line line rest front behind =
      let inside : at < length text = first.0.high in
      let cut : text ≡ take at text ++ 10 ∷ rest =
      split_at text at 0 inside ∙ (λ i. take at text ++ ends i ∷ (ap (λ (k : ℕ). drop k text) (sym (add-one at)) ∙ sym behind) i) in
      record {
        lines = ap lines cut ∙ line_cut (take at text) rest free
            ∙ ap (λ (l : List ℕ). l ∷ lines rest) (sym (front ∙ take_more text at 0 inside ∙ ap (λ (b : ℕ). take at text ++ b ∷ []) ends));
        shorter = omega (arith, ap length behind, length-drop (at + 1) text);
      }

some_bytes : (text : List ℕ) → false ≡ (length text == 0) → text ≢ []
some_bytes [] h = λ none. cc
some_bytes (b ∷ bs) h = λ none. cc

-- where none was found
pub last_line : (text line rest : List ℕ) → false ≡ (length text == 0) → IsFirstByte (is_byte 10) text None → line ≡ take (length text) text → rest ≡ drop (length text) text → IsFirstLine text line rest
last_line text line rest some none front behind = record {
  lines = by text (some_bytes text some) none ∙ (λ i. sym (front ∙ take_all (length text) text (omega arith)) i ∷ lines (sym (behind ∙ drop_all (length text) text (omega arith)) i));
  shorter = let other : 0 < length text = grind (arith, nat_tests) in omega (arith, ap length behind, length-drop (length text) text);
}
  where
    by : (text : List ℕ) → text ≢ [] → IsFirstByte (is_byte 10) text None → lines text ≡ text ∷ []
    by [] some none = absurd (some refl)
    by (b ∷ bs) some none = one_line b bs (All-from_get_or IsInner (b ∷ bs) 0 (λ i h. inner (get_or (b ∷ bs) i 0) (none i (omega arith) h)))

joined_onto : (b : ℕ) (ls : List (List ℕ)) → flat_map (λ l. l) (onto_first b ls) ≡ b ∷ flat_map (λ l. l) ls
joined_onto b [] = refl
joined_onto b (l ∷ ls) = refl

joined_more : (b : ℕ) (bs : List ℕ) (feed : Bool) → flat_map (λ l. l) (if feed then (b ∷ []) ∷ lines bs else onto_first b (lines bs)) ≡ b ∷ flat_map (λ l. l) (lines bs)
joined_more b bs true = refl
joined_more b bs false = joined_onto b (lines bs)

-- the lines of a text, joined
pub joined : (text : List ℕ) → flat_map (λ l. l) (lines text) ≡ text
joined [] = refl
joined (b ∷ bs) = joined_more b bs (b == 10) ∙ ap (λ (l : List ℕ). b ∷ l) (joined bs)
