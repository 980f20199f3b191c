-- What a matcher keeps is so under a plan that is the same but for addresses.
use Rattle.std.proofs.Common.{◌≡◌, ℕ, zero, suc, ◌<◌, List, [], ◌∷◌, map, length, None, refl, ap, subst, ◌∙◌}
use Rattle.std.specs.Prelude.{not, find, IfSome, slice_get}
use Rattle.std.specs.List.{All, AllZip, filter, flat_map, last_or}
use Rattle.std.proofs.lemmas.List.Elements.{All-weaker}
use Rattle.sp_plan.specs.declared.plan.Name.{Name}
use Rattle.sp_plan.specs.declared.plan.Element.{Element}
use Rattle.sp_plan.specs.declared.plan.Plan.{Plan}
use Rattle.sp_plan.specs.Compiled.{IsCompiled}
use Rattle.sp_plan.specs.Same.{SameName, SamePlan}
use Rattle.sp_plan.specs.Runs.{Pair, Run, binds, guards_behind, is_bound, is_consumed, is_filled, used}
use Rattle.sp_match.specs.declared.run.Ahead.{Ahead}
use Rattle.sp_match.specs.inside.Kept.{Kept, pairs}
use Rattle.sp_match.specs.inside.Taking.{again_name, range_of}
use Rattle.sp_match.specs.inside.Good.{Good}
use Rattle.sp_match.specs.inside.Keeping.{IsKept}

-- there are as many names
as_many : (xs ys : List Name) → AllZip SameName xs ys → length xs ≡ length ys
as_many [] [] same = refl
as_many [] (y ∷ ys) same = absurd same
as_many (x ∷ xs) [] same = absurd same
as_many (x ∷ xs) (y ∷ ys) same = ap suc (as_many xs ys same.1)

-- and names at one place are consumed alike
consumed_alike : (xs ys : List Name) → AllZip SameName xs ys → (n : ℕ) → is_consumed (slice_get xs n) ≡ is_consumed (slice_get ys n)
consumed_alike [] [] same n = refl
consumed_alike [] (y ∷ ys) same n = absurd same
consumed_alike (x ∷ xs) [] same n = absurd same
consumed_alike (x ∷ xs) (y ∷ ys) same zero = same.0.2
consumed_alike (x ∷ xs) (y ∷ ys) same (suc n) = consumed_alike xs ys same.1 n

-- what counts for a run next is so where the elements are these
abbrev AheadUnder : List Pair → Ahead → List Element → Type 0
AheadUnder r ahead elements =
    (ahead.element ≡ find (λ element. not (is_filled r element)) elements) × (ahead.again ≡ again_name elements (last_or None r)) × (ahead.guards ≡ range_of (guards_behind elements r (last_or None r)))

module _ (p q : Plan) (same : SamePlan p q) where
  -- a run would use the same numbers
  used_alike : (run : Run) → used p run ≡ used q run
  used_alike run = λ i. map (λ (pair : Pair). pair.number) (filter (λ (pair : Pair). consumed_alike p.names q.names same.names pair.name i) run)

  good_alike : (k : Kept) → Good p k → Good q k
  good_alike k good = record {
    same_names = good.same_names;
    named = subst (λ (n : ℕ). All (λ (pair : ℕ × ℕ). pair.0 < n) k.bound) (as_many p.names q.names same.names) good.named;
    flags = good.flags;
    marks = good.marks;
    counted = good.counted ∙ ap (λ (elements : List Element). length (filter (is_bound (pairs k)) (flat_map binds elements))) same.elements;
    ahead_is = subst (λ (elements : List Element). IfSome k.ahead (λ ahead. AheadUnder (pairs k) ahead elements)) same.elements good.ahead_is;
    used_is = good.used_is ∙ used_alike (pairs k);
    rising = good.rising;
    small = good.small;
    undoes = good.undoes;
  }

  pub kept_alike : (count : ℕ) (ks : List Kept) → IsCompiled q → IsKept p count ks → IsKept q count ks
  kept_alike count ks compiled own = record { compiled = compiled; good = All-weaker (Good p) (Good q) good_alike ks own.good; idle = own.idle; ordered = own.ordered }
