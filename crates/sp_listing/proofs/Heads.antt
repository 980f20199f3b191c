-- The line of a window, part by part.
use Rattle.std.proofs.Common.{◌≡◌, ◌≢◌, ℕ, ◌<◌, ◌≤◌, ◌^◌, ◌==◌, Bool, true, false, List, [], ◌∷◌, ◌++◌, refl, sym, ◌∙◌, ap, subst, arith, append_assoc}
use Rattle.std.specs.Prelude.{codes}
use Rattle.std.specs.Fmt.{decimal}
use Rattle.std.specs.Cmp.Lexicographic.{pointwise}
use Rattle.std.specs.List.Sorted.{IsStrictlyIncreasing}
use Rattle.std.proofs.lemmas.Bool.Decides.{Decides-eqb}
use Rattle.std.proofs.lemmas.Slice.Eq.{slice_eq-Decides}
use lib.Dec.{eqb}
use Rattle.std.proofs.lemmas.List.{append_cancel_left}
use Rattle.sp_base.specs.Commas.{list_text}
use Rattle.sp_plan.specs.declared.plan.Plan.{Plan}
use Rattle.sp_plan.specs.declared.found.Match.{Match}
use Rattle.sp_plan.specs.Lines.{line}
use Rattle.sp_emit.specs.Reading.{heads, LabelledAt, NumbersAt, PlacesAt}
use Rattle.sp_emit.proofs.Numbers.{labelled_one}
use Rattle.sp_emit.proofs.Commas.{places_numbers, places_one, none_rising}
use Rattle.sp_emit.proofs.Lines.{is_some, no_dash}
use Rattle.sp_listing.specs.Listing.{Entry, Begins, head_line}
use Rattle.sp_listing.specs.Reading.{ListAt}

-- ---- lists behind labels

module _ (label text behind : List ℕ) (cut : text ≡ label ++ behind) where
  -- what stands behind the label of a list
  list_behind : (ns r : List ℕ) → ListAt label text ns r → behind ≡ list_text ns ++ r
  list_behind ns r a = append_cancel_left label behind (list_text ns ++ r) (sym cut ∙ a.cut)

  places_behind : (n : ℕ) (ns r : List ℕ) → ListAt label text (n ∷ ns) r → PlacesAt behind (n ∷ ns) r
  places_behind n ns r a = record { some = is_some n ns; are = a.are; cut = list_behind (n ∷ ns) r a; ends = a.ends (is_some n ns) }

  module _ (dash : (rest : List ℕ) → behind ≢ codes "-" ++ rest) where
    -- neither a dash nor numbers stand there
    pub no_list : ((ns r : List ℕ) → NumbersAt behind ns r → ⊥) → (ns r : List ℕ) → ListAt label text ns r → ⊥
    no_list none [] r a = dash r (list_behind [] r a)
    no_list none (n ∷ ns) r a = none (n ∷ ns) r (places_numbers behind (n ∷ ns) r (places_behind n ns r a))

    -- numbers stand there, and don't rise
    pub no_rise : (ms rest list : List ℕ) → NumbersAt behind ms rest → list ≡ ms → (IsStrictlyIncreasing list → ⊥) → (ns r : List ℕ) → ListAt label text ns r → ⊥
    no_rise ms rest list a e not_rising [] r b = dash r (list_behind [] r b)
    no_rise ms rest list a e not_rising (n ∷ ns) r b = none_rising behind ms rest list a e not_rising (n ∷ ns) r (places_behind n ns r b)

-- two lists behind one label are one
list_one : (label text ms ns r s : List ℕ) → ListAt label text ms r → ListAt label text ns s → (ms ≡ ns) × (r ≡ s)
list_one label text [] [] r s a b =
    (refl, append_cancel_left (codes "-") r s (append_cancel_left label (codes "-" ++ r) (codes "-" ++ s) (sym a.cut ∙ b.cut)))
list_one label text [] (n ∷ ns) r s a b =
    absurd (no_dash (codes "-" ++ r) (n ∷ ns) s r (places_behind label text (codes "-" ++ r) a.cut n ns s b) refl)
list_one label text (m ∷ ms) [] r s a b =
    absurd (no_dash (codes "-" ++ s) (m ∷ ms) r s (places_behind label text (codes "-" ++ s) b.cut m ms r a) refl)
list_one label text (m ∷ ms) (n ∷ ns) r s a b =
    let behind = list_text (m ∷ ms) ++ r in
    places_one behind (m ∷ ms) (n ∷ ns) r s (places_behind label text behind a.cut m ms r a) (places_behind label text behind a.cut n ns s b)

-- what a test for equal texts says where it holds
pub equals : (xs ys zs : List ℕ) (r : Bool) → r ≡ pointwise eqb xs ys → r ≡ true → ys ≡ zs → xs ≡ zs
equals xs ys zs r is equal same = (slice_eq-Decides Decides-eqb xs ys r is).0 equal ∙ same

-- ---- the whole line

-- what stands behind the numbers skipped
abbrev behind_skipped : Entry → List ℕ
behind_skipped e = codes " used=" ++ (list_text e.used ++ codes "\n")

-- what stands behind the last event
abbrev behind_last : Entry → List ℕ
behind_last e = codes " skip=" ++ (list_text e.skipped ++ behind_skipped e)

-- what stands behind the first event
abbrev behind_first : Entry → List ℕ
behind_first e = codes " to=" ++ (decimal e.last ++ behind_last e)

-- what stands behind the window's number
abbrev behind_window : Entry → List ℕ
behind_window e = codes " from=" ++ (decimal e.first ++ behind_first e)

-- the line of a window, part by part
head_parts : (e : Entry) → head_line e ≡ codes "p w=" ++ (decimal e.window ++ behind_window e)
head_parts e = simp append_assoc

-- a label and a number of 32 bits
abbrev pub ShortAt : List ℕ → List ℕ → ℕ → List ℕ → Type 0
ShortAt label text n rest = LabelledAt label 4294967295 text n rest

short_one : (label text : List ℕ) (m n : ℕ) (r s : List ℕ) → ShortAt label text m r → ShortAt label text n s → (m ≡ n) × (r ≡ s)
short_one label text m n r s a b = labelled_one label 4294967295 text (omega arith) m n r s a b

module _ (text : List ℕ) (e : Entry) (is : Begins text e) where
  window_at : ShortAt (codes "p w=") text e.window (behind_window e)
  window_at = record { within = let w : e.window < 2 ^ 32 = is.numbers.window in omega arith; cut = is.is ∙ head_parts e; ends = refl }

  first_at : ShortAt (codes " from=") (behind_window e) e.first (behind_first e)
  first_at = record { within = let w : e.first < 2 ^ 32 = is.numbers.first in omega arith; cut = refl; ends = refl }

  last_at : ShortAt (codes " to=") (behind_first e) e.last (behind_last e)
  last_at = record { within = let w : e.last < 2 ^ 32 = is.numbers.last in omega arith; cut = refl; ends = refl }

  skipped_at : ListAt (codes " skip=") (behind_last e) e.skipped (behind_skipped e)
  skipped_at = record { are = is.numbers.skipped; cut = refl; ends = λ some. refl }

  used_at : ListAt (codes " used=") (behind_skipped e) e.used (codes "\n")
  used_at = record { are = is.numbers.used; cut = refl; ends = λ some. refl }

-- the line of a window, read part by part
module _ (text : List ℕ) (e : Entry) (is : Begins text e) where
  pub no_window : ((n : ℕ) (r : List ℕ) → ShortAt (codes "p w=") text n r → ⊥) → ⊥
  no_window none = none e.window (behind_window e) (window_at text e is)

  module _ (window : ℕ) (second : List ℕ) (w : ShortAt (codes "p w=") text window second) where
    window_same : (window ≡ e.window) × (second ≡ behind_window e)
    window_same = short_one (codes "p w=") text window e.window second (behind_window e) w (window_at text e is)

    first_here : ShortAt (codes " from=") second e.first (behind_first e)
    first_here = subst (λ (l : List ℕ). ShortAt (codes " from=") l e.first (behind_first e)) (sym window_same.1) (first_at text e is)

    pub no_first : ((n : ℕ) (r : List ℕ) → ShortAt (codes " from=") second n r → ⊥) → ⊥
    no_first none = none e.first (behind_first e) first_here

    module _ (first : ℕ) (third : List ℕ) (f : ShortAt (codes " from=") second first third) where
      first_same : (first ≡ e.first) × (third ≡ behind_first e)
      first_same = short_one (codes " from=") second first e.first third (behind_first e) f first_here

      last_here : ShortAt (codes " to=") third e.last (behind_last e)
      last_here = subst (λ (l : List ℕ). ShortAt (codes " to=") l e.last (behind_last e)) (sym first_same.1) (last_at text e is)

      pub no_last : ((n : ℕ) (r : List ℕ) → ShortAt (codes " to=") third n r → ⊥) → ⊥
      no_last none = none e.last (behind_last e) last_here

      module _ (last : ℕ) (fourth : List ℕ) (l : ShortAt (codes " to=") third last fourth) where
        last_same : (last ≡ e.last) × (fourth ≡ behind_last e)
        last_same = short_one (codes " to=") third last e.last fourth (behind_last e) l last_here

        skipped_here : ListAt (codes " skip=") fourth e.skipped (behind_skipped e)
        skipped_here = subst (λ (l : List ℕ). ListAt (codes " skip=") l e.skipped (behind_skipped e)) (sym last_same.1) (skipped_at text e is)

        pub no_skipped : ((ns r : List ℕ) → ListAt (codes " skip=") fourth ns r → ⊥) → ⊥
        no_skipped none = none e.skipped (behind_skipped e) skipped_here

        module _ (skipped fifth : List ℕ) (s : ListAt (codes " skip=") fourth skipped fifth) where
          skipped_same : (skipped ≡ e.skipped) × (fifth ≡ behind_skipped e)
          skipped_same = list_one (codes " skip=") fourth skipped e.skipped fifth (behind_skipped e) s skipped_here

          used_here : ListAt (codes " used=") fifth e.used (codes "\n")
          used_here = subst (λ (l : List ℕ). ListAt (codes " used=") l e.used (codes "\n")) (sym skipped_same.1) (used_at text e is)

          pub no_used : ((ns r : List ℕ) → ListAt (codes " used=") fifth ns r → ⊥) → ⊥
          no_used none = none e.used (codes "\n") used_here

          module _ (used sixth : List ℕ) (u : ListAt (codes " used=") fifth used sixth) where
            used_same : (used ≡ e.used) × (sixth ≡ codes "\n")
            used_same = list_one (codes " used=") fifth used e.used sixth (codes "\n") u used_here

            pub no_end : sixth ≢ codes "\n" → ⊥
            no_end other = other used_same.1

            pub same_begun : (record { window = window; first = first; last = last; skipped = skipped; used = used; matches = [] }) ≡ e
            same_begun = λ i. record {
              window = window_same.0 i;
              first = first_same.0 i;
              last = last_same.0 i;
              skipped = skipped_same.0 i;
              used = used_same.0 i;
              matches = sym is.none i;
            }

-- the entry that a line begins whose parts were read
pub head_read : (text second third fourth fifth sixth : List ℕ) (e : Entry) → ShortAt (codes "p w=") text e.window second → ShortAt (codes " from=") second e.first third
    → ShortAt (codes " to=") third e.last fourth → ListAt (codes " skip=") fourth e.skipped fifth → ListAt (codes " used=") fifth e.used sixth → sixth ≡ codes "\n" → e.matches ≡ [] → Begins text e
head_read text second third fourth fifth sixth e w f l s u end none = record {
  numbers = record {
    window = let x : e.window ≤ 4294967295 = w.within in omega arith;
    first = let x : e.first ≤ 4294967295 = f.within in omega arith;
    last = let x : e.last ≤ 4294967295 = l.within in omega arith;
    skipped = s.are;
    used = u.are;
  };
  none = none;
  is =
      w.cut
      ∙ ap (λ (t : List ℕ). codes "p w=" ++ (decimal e.window ++ t)) (f.cut
      ∙ ap (λ (t : List ℕ). codes " from=" ++ (decimal e.first ++ t)) (l.cut
      ∙ ap (λ (t : List ℕ). codes " to=" ++ (decimal e.last ++ t)) (s.cut
      ∙ ap (λ (t : List ℕ). codes " skip=" ++ (list_text e.skipped ++ t)) (u.cut ∙ ap (λ (t : List ℕ). codes " used=" ++ (list_text e.used ++ t)) end))))
      ∙ sym (head_parts e);
}

-- a line begins one entry at most
pub one_begun : (text : List ℕ) (e other : Entry) → Begins text e → Begins text other → e ≡ other
one_begun text e other a b =
    (λ i. record { window = e.window; first = e.first; last = e.last; skipped = e.skipped; used = e.used; matches = a.none i })
    ∙ same_begun text other b e.window (behind_window e) (window_at text e a) e.first (behind_first e) (first_at text e a) e.last (behind_last e) (last_at text e a)
    e.skipped (behind_skipped e) (skipped_at text e a) e.used (codes "\n") (used_at text e a)

-- no line of a window is that of a match
pub head_alone : (q : Plan) (e : Entry) (m : Match) → head_line e ≡ line q m → ⊥
head_alone q e m same = let unlike : true ≡ false = ap (heads (λ b. b == 112)) same in cc
