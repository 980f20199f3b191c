-- Texts cut at a byte.
use Rattle.std.proofs.Common.{◌≡◌, ◌≢◌, ℕ, ◌+◌, ◌-◌, ◌<◌, ◌≤◌, Bool, true, false, cond, ltb, List, [], ◌∷◌, ◌++◌, length, take, drop, Option, Some, None, refl, sym, ◌∙◌, ap, arith, ◌==◌, length-take, length-drop}
use Rattle.std.specs.List.{All, position_or_len, join_with_byte}
use Rattle.std.proofs.lemmas.List.Splits.{slice_split_none, slice_split_first, slice_split_at, length-slice_split, join_with_byte-slice_split}
use Rattle.std.proofs.lemmas.Bool.Decides.{nat_tests}
use Rattle.std.proofs.lemmas.Bool.{ltb-true, ltb-false}
use Rattle.std.proofs.lemmas.List.{take_rest}
use Rattle.std.proofs.lemmas.List.Elements.{All-from_get_or}
use Rattle.std.proofs.lemmas.List.Sums.{fails_before_first}
use Rattle.sp_sched.specs.Reading.{parts, IsCut}

-- whether a byte is the mark
abbrev pub is_mark : ℕ → ℕ → Bool
is_mark mark b = b == mark

-- the place of the first mark, where there is one
abbrev pub first_place : ℕ → List ℕ → Option ℕ
first_place mark text = cond (ltb (position_or_len (is_mark mark) text) (length text)) (Some (position_or_len (is_mark mark) text)) None

module _ (mark : ℕ) (text : List ℕ) (r : Option ℕ) (is : r ≡ first_place mark text) where
  pub none_marked : r ≡ None → parts mark text ≡ text ∷ []
  none_marked none = slice_split_none (is_mark mark) text (All-from_get_or (λ b. is_mark mark b ≡ false) text 0 (λ i h. fails_before_first (is_mark mark) text i 0 (omega (arith, past (sym none ∙ is)))))
    where
      past : None ≡ first_place mark text → length text ≤ position_or_len (is_mark mark) text
      past e = ltb-false (position_or_len (is_mark mark) text) (length text) (at (ltb (position_or_len (is_mark mark) text) (length text)) e)
        where
          at : (b : Bool) → None ≡ cond b (Some (position_or_len (is_mark mark) text)) None → b ≡ false
          at true e = cc
          at false e = refl

  pub cut_at : (at : ℕ) → r ≡ Some at → IsCut mark text (take at text) (take (length text - (at + 1)) (drop (at + 1) text))
  cut_at at some =
      let here = place (ltb (position_or_len (is_mark mark) text) (length text)) refl (sym some ∙ is) in
      let inside : at < length text = omega (arith, here) in
      let same : position_or_len (is_mark mark) text ≡ at = here.0 in
      record {
        cut = slice_split_first (is_mark mark) text 0 here.1 ∙ ap (λ (k : ℕ). take k text ∷ parts mark (drop (k + 1) text)) same
            ∙ ap (λ (l : List ℕ). take at text ∷ parts mark l) (sym (take_rest text (at + 1)));
        shorter = simp (length-take, length-drop) (omega arith);
      }
    where
      place : (b : Bool) → b ≡ ltb (position_or_len (is_mark mark) text) (length text) → Some at ≡ cond b (Some (position_or_len (is_mark mark) text)) None → (position_or_len (is_mark mark) text ≡ at) × (position_or_len (is_mark mark) text < length text)
      place true f e = (cc, ltb-true (position_or_len (is_mark mark) text) (length text) (sym f))
      place false f e = cc

-- a text has at least one part
pub parts_some : (mark : ℕ) (text : List ℕ) → parts mark text ≢ []
parts_some mark text e = let n = length-slice_split (is_mark mark) text in let z : length (parts mark text) ≡ 0 = ap length e in absurd (omega arith)

-- a text is its parts, joined
pub joined : (mark : ℕ) (text : List ℕ) → join_with_byte mark (parts mark text) ≡ text
joined mark text = join_with_byte-slice_split mark text

-- a text without the mark is known by its only part
pub same_last : (mark : ℕ) (one other : List ℕ) → parts mark one ≡ parts mark other → one ≡ other
same_last mark one other e = sym (joined mark one) ∙ ap (join_with_byte mark) e ∙ joined mark other

-- a part in front of a mark
pub front_part : (mark : ℕ) (front rest : List ℕ) → All (λ b. is_mark mark b ≡ false) front → parts mark (front ++ mark ∷ rest) ≡ front ∷ parts mark rest
front_part mark front rest free = slice_split_at (is_mark mark) front mark rest free (grind (arith, nat_tests))

-- a text that holds a mark has more than one part
pub not_alone : (mark : ℕ) (text front rest : List ℕ) → parts mark text ≡ text ∷ [] → All (λ b. is_mark mark b ≡ false) front → text ≡ front ++ mark ∷ rest → ⊥
not_alone mark text front rest alone free e =
    let p : text ∷ [] ≡ front ∷ parts mark rest = sym alone ∙ ap (parts mark) e ∙ front_part mark front rest free in
    let none : parts mark rest ≡ [] = cc in
    parts_some mark rest none

module _ (mark : ℕ) (text front rest : List ℕ) (c : IsCut mark text front rest) where
  pub whole : text ≡ front ++ mark ∷ rest
  whole = sym (joined mark text) ∙ ap (join_with_byte mark) c.cut ∙ by (parts mark rest) (parts_some mark rest) ∙ ap (λ (l : List ℕ). front ++ mark ∷ l) (joined mark rest)
    where
      by : (more : List (List ℕ)) → more ≢ [] → join_with_byte mark (front ∷ more) ≡ front ++ mark ∷ join_with_byte mark more
      by [] some = absurd (some refl)
      by (part ∷ more) some = refl

  -- a text is cut in one way
  pub one_cut : (other behind : List ℕ) → All (λ b. is_mark mark b ≡ false) other → text ≡ other ++ mark ∷ behind → (front ≡ other) × (rest ≡ behind)
  one_cut other behind free e =
      let p : front ∷ parts mark rest ≡ other ∷ parts mark behind = sym c.cut ∙ ap (parts mark) e ∙ front_part mark other behind free in
      (cc, same_last mark rest behind (cc))
