-- An expression means one value, and a predicate is true or not.
use Rattle.std.proofs.Common.{◌≡◌, ℕ, Bool, List, Some, refl, sym, ap, subst, arith}
use Rattle.sp_plan.specs.declared.event.Event.{Event}
use Rattle.sp_plan.specs.Values.{BoundEvents}
use Rattle.sp_query.specs.declared.tree.Tree.{Tree, out-Tree}
use Rattle.sp_query.specs.declared.tree.Node.{Node}
use Rattle.sp_query.specs.declared.tree.Node.TheVariants as n
use Rattle.sp_compile.specs.Scopes.{Scope}
use Rattle.sp_compile.specs.Meaning.{Datum, constant_datum, combined, Means, constant, own, earlier, minus, binary, Truth, test, both, either, denied}
use Rattle.sp_compile.proofs.OneFault.{kind}

constant_kind : (texts : List (List ℕ)) (node : Node) (datum : Datum) → constant_datum texts node ≡ Some datum → kind node ≡ 0
constant_kind texts (n.Whole x) datum e = refl
constant_kind texts (n.Decimal units scale) datum e = refl
constant_kind texts (n.Literal t) datum e = refl
constant_kind texts _ datum e = absurd cc

combined_kind : (node : Node) (one other datum : Datum) → combined node one other ≡ Some datum → kind node ≡ 4
combined_kind n.Add one other datum e = refl
combined_kind n.Sub one other datum e = refl
combined_kind n.Mul one other datum e = refl
combined_kind _ one other datum e = absurd cc

module _ (scope : Scope) (texts : List (List ℕ)) (event : Event) (bound : BoundEvents) where
  abbrev meant : {t : Tree} {a : Datum} → Means scope texts event bound t a → ℕ
  meant (constant _ _ _) = 0
  meant (own _ _ _ _ _ _ _ _ _) = 1
  meant (earlier _ _ _ _ _ _ _ _ _ _ _ _) = 2
  meant (minus _ _ _ _ _ _ _ _) = 3
  meant (binary _ _ _ _ _ _ _ _ _ _) = 4

  meant_kind : (t : Tree) (a : Datum) (d : Means scope texts event bound t a) → kind (out-Tree t).node ≡ meant d
  meant_kind t a (constant _ _ e) = constant_kind texts _ a e
  meant_kind t a (own _ name place column _ e f g h) = ap kind e
  meant_kind t a (earlier _ first name at place column _ e f g h i) = ap kind e
  meant_kind t a (minus _ part inner _ e f d g) = ap kind e
  meant_kind t a (binary _ left right one other _ f d i g) = combined_kind _ one other a g

  pub one_value : (t : Tree) (a b : Datum) → Means scope texts event bound t a → Means scope texts event bound t b → a ≡ b
  one_value t a b (constant _ _ e) (constant _ _ e') = cc
  one_value t a b (own _ name place column _ e f g h) (own _ name' place' column' _ e' f' g' h') =
      let k : name ≡ name' = cc in
      let l : place ≡ place' = cc in
      let m : column ≡ column' = cc in
      cc
  one_value t a b (earlier _ first name at place column _ e f g h i) (earlier _ first' name' at' place' column' _ e' f' g' h' i') =
      let j : first ≡ first' = cc in
      let k : name ≡ name' = cc in
      let l : place ≡ place' = cc in
      let q : at ≡ at' = cc in
      let m : column ≡ column' = cc in
      cc
  one_value t a b (minus _ part inner _ e f d g) (minus _ part' inner' _ e' f' d' g') =
      let same : part ≡ part' = cc in
      let k = one_value part inner inner' d (subst (λ p. Means scope texts event bound p inner') (sym same) d') in
      cc
  one_value t a b (binary _ left right one other _ f d i g) (binary _ left' right' one' other' _ f' d' i' g') =
      let same : left ≡ left' = cc in
      let same' : right ≡ right' = cc in
      let k = one_value left one one' d (subst (λ p. Means scope texts event bound p one') (sym same) d') in
      let l = one_value right other other' i (subst (λ p. Means scope texts event bound p other') (sym same') i') in
      cc
  one_value t a b d e = absurd (omega (arith, meant_kind t a d, meant_kind t b e))

  -- which kind of root a derivation is for
  abbrev told : {t : Tree} {a : Bool} → Truth scope texts event bound t a → ℕ
  told (test _ _ _ _ _ _ _ _ _ _ _ _) = 5
  told (both _ _ _ _ _ _ _ _ _ _ _) = 6
  told (either _ _ _ _ _ _ _ _ _ _ _) = 6
  told (denied _ _ _ _ _ _ _ _) = 7

  told_kind : (t : Tree) (a : Bool) (d : Truth scope texts event bound t a) → kind (out-Tree t).node ≡ told d
  told_kind t a (test _ left right by one other _ e f d i g) = ap kind e
  told_kind t a (both _ left right one other _ e f d i g) = ap kind e
  told_kind t a (either _ left right one other _ e f d i g) = ap kind e
  told_kind t a (denied _ part inner _ e f d g) = ap kind e

  pub one_truth : (t : Tree) (a b : Bool) → Truth scope texts event bound t a → Truth scope texts event bound t b → a ≡ b
  one_truth t a b (test _ left right by one other _ e f d i g) (test _ left' right' by' one' other' _ e' f' d' i' g') =
      let same : left ≡ left' = cc in
      let same' : right ≡ right' = cc in
      let k = one_value left one one' d (subst (λ p. Means scope texts event bound p one') (sym same) d') in
      let l = one_value right other other' i (subst (λ p. Means scope texts event bound p other') (sym same') i') in
      cc
  one_truth t a b (both _ left right one other _ e f d i g) (both _ left' right' one' other' _ e' f' d' i' g') =
      let same : left ≡ left' = cc in
      let same' : right ≡ right' = cc in
      let k = one_truth left one one' d (subst (λ p. Truth scope texts event bound p one') (sym same) d') in
      let l = one_truth right other other' i (subst (λ p. Truth scope texts event bound p other') (sym same') i') in
      cc
  one_truth t a b (either _ left right one other _ e f d i g) (either _ left' right' one' other' _ e' f' d' i' g') =
      let same : left ≡ left' = cc in
      let same' : right ≡ right' = cc in
      let k = one_truth left one one' d (subst (λ p. Truth scope texts event bound p one') (sym same) d') in
      let l = one_truth right other other' i (subst (λ p. Truth scope texts event bound p other') (sym same') i') in
      cc
  one_truth t a b (both _ left right one other _ e f d i g) (either _ left' right' one' other' _ e' f' d' i' g') = absurd cc
  one_truth t a b (either _ left right one other _ e f d i g) (both _ left' right' one' other' _ e' f' d' i' g') = absurd cc
  one_truth t a b (denied _ part inner _ e f d g) (denied _ part' inner' _ e' f' d' g') =
      let same : part ≡ part' = cc in
      let k = one_truth part inner inner' d (subst (λ p. Truth scope texts event bound p inner') (sym same) d') in
      cc
  one_truth t a b d e = absurd (omega (arith, told_kind t a d, told_kind t b e))
