-- Plans that are one but for addresses: what a run uses under them.
use Rattle.std.proofs.Common.{◌≡◌, ℕ, zero, suc, Bool, true, false, cond, List, [], ◌∷◌, map, filter, refl, ap, ◌∙◌}
use Rattle.std.specs.Prelude.{slice_get}
use Rattle.std.specs.List.{AllZip}
use Rattle.sp_plan.specs.declared.plan.Name.{Name}
use Rattle.sp_plan.specs.declared.plan.Plan.{Plan}
use Rattle.sp_plan.specs.Same.{SameName, SamePlan}
use Rattle.sp_plan.specs.Runs.{Pair, Run, is_consumed, used}

-- names at one place are consumed alike
consumed_alike : (xs ys : List Name) → AllZip SameName xs ys → (n : ℕ) → is_consumed (slice_get xs n) ≡ is_consumed (slice_get ys n)
consumed_alike [] [] same n = refl
consumed_alike [] (y ∷ ys) same n = absurd same
consumed_alike (x ∷ xs) [] same n = absurd same
consumed_alike (x ∷ xs) (y ∷ ys) same zero = same.0.2
consumed_alike (x ∷ xs) (y ∷ ys) same (suc n) = consumed_alike xs ys same.1 n

-- a run uses the same numbers under both
pub used_alike : (p q : Plan) → SamePlan p q → (run : Run) → used p run ≡ used q run
used_alike p q same [] = refl
used_alike p q same (pair ∷ run) =
    ap (λ (b : Bool). map (λ (x : Pair). x.number) (cond b (pair ∷ filter (λ (x : Pair). is_consumed (slice_get p.names x.name)) run) (filter (λ (x : Pair). is_consumed (slice_get p.names x.name)) run)))
    (consumed_alike p.names q.names same.names pair.name)
    ∙ one (is_consumed (slice_get q.names pair.name)) (used_alike p q same run)
  where
    one : (b : Bool) → used p run ≡ used q run
        → map (λ (x : Pair). x.number) (cond b (pair ∷ filter (λ (x : Pair). is_consumed (slice_get p.names x.name)) run) (filter (λ (x : Pair). is_consumed (slice_get p.names x.name)) run))
        ≡ map (λ (x : Pair). x.number) (cond b (pair ∷ filter (λ (x : Pair). is_consumed (slice_get q.names x.name)) run) (filter (λ (x : Pair). is_consumed (slice_get q.names x.name)) run))
    one true rest = ap (λ (ns : List ℕ). pair.number ∷ ns) rest
    one false rest = rest
