-- What a plan consumes, and what is told of it.
use Rattle.std.proofs.Common.{◌≡◌, List, [], ◌∷◌, refl}
use Rattle.std.specs.Prelude.{◌||◌, filter}
use Rattle.std.specs.List.{AllZip, list_any}
use Rattle.sp_plan.specs.declared.plan.Name.{Name}
use Rattle.sp_plan.specs.declared.plan.Plan.{Plan}
use Rattle.sp_plan.specs.Same.{SameName, SamePlan}
use Rattle.sp_match.specs.public.Laws.{is_completion}
use Rattle.sp_piece.specs.Reading.{Account, consumes, gathered}

names_alike : (xs ys : List Name) → AllZip SameName xs ys → list_any (λ (name : Name). name.consumed) xs ≡ list_any (λ (name : Name). name.consumed) ys
names_alike [] [] all = refl
names_alike [] (y ∷ ys) all = absurd all
names_alike (x ∷ xs) [] all = absurd all
names_alike (x ∷ xs) (y ∷ ys) all = λ i. all.0.2 i || names_alike xs ys all.1 i

-- plans that are one but for where their parts lie in memory consume alike
pub consume_alike : (p q : Plan) → SamePlan p q → consumes p ≡ consumes q
consume_alike p q same = names_alike p.names q.names same.names

-- the completions of an account are gathered
pub gathered_completions : (q : Plan) (a : Account) → (gathered q a).told ≡ filter is_completion a.told
gathered_completions q a = refl
