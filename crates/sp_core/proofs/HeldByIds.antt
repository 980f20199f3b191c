-- A sum over the ids of entries is the sum over the entries.
use Rattle.std.proofs.Common.{◌≡◌, ℕ, ◌+◌, ◌<◌, ◌≤◌, Bool, true, false, cond, ◌==◌, List, [], ◌∷◌, map, Option, Some, None, refl, sym, ap, ◌∙◌, arith}
use Rattle.std.specs.Prelude.{reverse}
use Rattle.std.specs.List.{fold, sum, sum_by}
use Rattle.std.proofs.lemmas.Bool.Decides.{nat_tests}
use Rattle.std.proofs.lemmas.List.Sorted.{IsPermutation-reverse, sum_by-IsPermutation}
use Rattle.std.proofs.lemmas.List.Sums.{sum_by-cons}
use Rattle.sp_group.specs.Family.{entry_at}
use Rattle.sp_tree.specs.Grown.{Entry, FallFrom, kin}

fold_mapped : {X Y B : Type 0} (h : B → Y → B) (f : X → Y) (a : B) (xs : List X) → fold h a (map f xs) ≡ fold (λ b x. h b (f x)) a xs
fold_mapped h f a [] = refl
fold_mapped h f a (x ∷ xs) = fold_mapped h f (h a (f x)) xs

module _ {V : Type 0} where
  -- what is counted of an entry that is there
  abbrev pub counted : (Entry V → ℕ) → Option (Entry V) → ℕ
  counted count None = 0
  counted count (Some e) = count e

  -- an entry in front is not that of a lesser id
  passed_over : (count : Entry V → ℕ) (e : Entry V) (es : List (Entry V)) (top : ℕ) (fs : List (Entry V)) → FallFrom top fs → top ≤ e.version.id
      → sum_by (λ f. counted count (entry_at kin (e ∷ es) f.version.id)) fs ≡ sum_by (λ f. counted count (entry_at kin es f.version.id)) fs
  passed_over count e es top [] fall below = refl
  passed_over count e es top (f ∷ fs) fall below =
      let low : f.version.id < top = fall.0 in
      let other : (e.version.id == f.version.id) ≡ false = grind (arith, nat_tests) in
      let head : counted count (entry_at kin (e ∷ es) f.version.id) ≡ counted count (entry_at kin es f.version.id) =
      ap (λ (b : Bool). counted count (cond b (Some e) (entry_at kin es f.version.id))) other in
      let tail = passed_over count e es f.version.id fs fall.1 (omega arith) in
      sum_by-cons (λ f. counted count (entry_at kin (e ∷ es) f.version.id)) f fs ∙ (λ i. head i + tail i) ∙ sym (sum_by-cons (λ f. counted count (entry_at kin es f.version.id)) f fs)

  -- each entry is that of its id
  own_entries : (count : Entry V → ℕ) (top : ℕ) (es : List (Entry V)) → FallFrom top es → sum_by (λ e. counted count (entry_at kin es e.version.id)) es ≡ sum_by count es
  own_entries count top [] fall = refl
  own_entries count top (e ∷ es) fall =
      let itself : (e.version.id == e.version.id) ≡ true = grind (arith, nat_tests) in
      let head : counted count (entry_at kin (e ∷ es) e.version.id) ≡ count e = ap (λ (b : Bool). counted count (cond b (Some e) (entry_at kin es e.version.id))) itself in
      let tail = passed_over count e es e.version.id es fall.1 (omega arith) ∙ own_entries count e.version.id es fall.1 in
      sum_by-cons (λ f. counted count (entry_at kin (e ∷ es) f.version.id)) e es ∙ (λ i. head i + tail i) ∙ sym (sum_by-cons count e es)

  -- what the entries of all ids come to, from the last to the first
  pub by_ids : (count : Entry V → ℕ) (top : ℕ) (es : List (Entry V)) → FallFrom top es
      → sum (map (λ id. counted count (entry_at kin es id)) (reverse (map (λ e. e.version.id) es))) ≡ sum (map count es)
  by_ids count top es fall =
      let ids = map (λ (e : Entry V). e.version.id) es in
      let at = λ (id : ℕ). counted count (entry_at kin es id) in
      fold_mapped (λ a x. a + x) at 0 (reverse ids) ∙ sum_by-IsPermutation at ids (reverse ids) (IsPermutation-reverse ids)
      ∙ fold_mapped (λ a x. a + at x) (λ (e : Entry V). e.version.id) 0 es ∙ own_entries count top es fall ∙ sym (fold_mapped (λ a x. a + x) count 0 es)
