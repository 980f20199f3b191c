-- The values that a match gives, one after another.
use Rattle.std.proofs.Common.{◌≡◌, ℕ, ◌+◌, ◌<◌, ◌≤◌, true, false, List, [], ◌∷◌, ◌++◌, length, get_or, take, Option, Some, None, refl, sym, ◌∙◌, ap, subst, arith}
use Rattle.std.specs.List.{list_any, zip}
use Rattle.std.proofs.lemmas.List.{take_more, take_all, length-map, get_or-map}
use Rattle.std.proofs.lemmas.List.Folds.{list_any-append, list_any_at}
use Rattle.std.proofs.lemmas.List.Sums.{fold-append}
use Rattle.std.proofs.lemmas.Slice.Zip.{get_or-zip, length-zip}
use Rattle.sp_plan.specs.declared.event.Value.{Value}
use Rattle.sp_plan.specs.declared.plan.Column.{Column}
use Rattle.sp_plan.specs.declared.plan.Expr.{Expr}
use Rattle.sp_plan.specs.Values.{BoundEvents}
use Rattle.sp_graph.specs.Derived.{given, given_in, is_past, placed, with_value, renumbered}
use Rattle.sp_graph.specs.Answers.{IsPlaced}

-- as many values are given as there are columns
pub length_given : (cs : List Column) (rs : List Expr) (b : BoundEvents) → length rs ≡ length cs → length (given cs rs b) ≡ length cs
length_given cs rs b sizes = length-map (zip cs rs) (given_in b) ∙ omega (arith, length-zip cs rs, sizes)

module _ (cs : List Column) (rs : List Expr) (b : BoundEvents) (i : ℕ) (c : Column) (r : Expr) (sizes : length rs ≡ length cs) (inside : i < length cs)
    (column : c ≡ get_or cs i c) (expr : r ≡ get_or rs i r) where
  abbrev pub own : Value
  own = given_in b (c, r)

  within : i < length (given cs rs b)
  within = omega (arith, length_given cs rs b sizes)

  there : get_or (given cs rs b) i own ≡ own
  there =
      get_or-map (given_in b) (zip cs rs) i (c, r) own (omega (arith, length-zip cs rs, sizes))
      ∙ ap (given_in b) (get_or-zip cs rs i (c, r) inside (omega arith) ∙ (λ j. (sym column j, sym expr j)))

  next_given : take (i + 1) (given cs rs b) ≡ take i (given cs rs b) ++ own ∷ []
  next_given = take_more (given cs rs b) i own within ∙ ap (λ (x : Value). take i (given cs rs b) ++ x ∷ []) there

  -- a value that is past its limit is among those given
  pub one_past : is_past own ≡ true → list_any is_past (given cs rs b) ≡ true
  one_past past = list_any_at is_past (given cs rs b) i own within (ap is_past there ∙ past)

  -- one that isn't leaves all so far within
  pub one_within : list_any is_past (take i (given cs rs b)) ≡ false → is_past own ≡ false → list_any is_past (take (i + 1) (given cs rs b)) ≡ false
  one_within before here =
      ap (list_any is_past) next_given ∙ list_any-append is_past (take i (given cs rs b)) (own ∷ []) ∙ rw (before, here) refl

  -- the values so far, and one more
  pub one_placed : (texts first known after : List (List ℕ)) (values : List Value) (made : Value)
      → (values, known) ≡ renumbered texts first (take i (given cs rs b)) → (made, after) ≡ placed texts known own
      → (values ++ made ∷ [], after) ≡ renumbered texts first (take (i + 1) (given cs rs b))
  one_placed texts first known after values made before here =
      (λ j. (values ++ (here j).0 ∷ [], (here j).1))
      ∙ (λ j. with_value texts (before j) own)
      ∙ sym (ap (renumbered texts first) next_given ∙ fold-append (with_value texts) ([], first) (take i (given cs rs b)) (own ∷ []))

-- at the end all are taken
pub all_given : (cs : List Column) (rs : List Expr) (b : BoundEvents) (i : ℕ) → length rs ≡ length cs → length cs ≤ i → take i (given cs rs b) ≡ given cs rs b
all_given cs rs b i sizes past = take_all i (given cs rs b) (omega (arith, length_given cs rs b sizes))

-- ---- a value that was put in, or wasn't

pub put_in : (texts known after : List (List ℕ)) (given : Value) (o : Option Value) (made : Value) → IsPlaced texts known given o after → o ≡ Some made
    → (is_past given ≡ false) × ((made, after) ≡ placed texts known given)
put_in texts known after given o made is some = subst (λ (o : Option Value). IsPlaced texts known given o after) some is

pub left_out : (texts known after : List (List ℕ)) (given : Value) (o : Option Value) → IsPlaced texts known given o after → o ≡ None → is_past given ≡ true
left_out texts known after given o is none = subst (λ (o : Option Value). IsPlaced texts known given o after) none is
