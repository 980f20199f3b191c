-- How many versions are out or ready, as a tree and a core tell it.
use Rattle.std.proofs.Common.{◌≡◌, ℕ, ◌≤◌, Bool, true, false, cond, List, [], ◌∷◌, length, filter, map, ◌∙◌, arith}
use Rattle.std.proofs.lemmas.List.{length-map, length-reverse}
use Rattle.sp_plan.specs.declared.plan.Plan.{Plan}
use Rattle.sp_group.specs.Machine as machine
use Rattle.sp_group.specs.Machine.{Machine}
use Rattle.sp_core.specs.Suppressing.{ready_ids}
use Rattle.sp_spread.specs.Counting.{ready_versions}

-- the ready ones have as many ids
pub ready_counted : (q : Plan) (bound : ℕ) (m : Machine) → length (ready_ids q bound m) ≡ length (ready_versions q bound m)
ready_counted q bound m =
    length-reverse (map (λ (v : machine.Version). v.id) (ready_versions q bound m)) ∙ length-map (ready_versions q bound m) (λ (v : machine.Version). v.id)

pub few_pass : {X : Type 0} (p : X → Bool) (xs : List X) → length (filter p xs) ≤ length xs
few_pass p [] = omega arith
few_pass {X} p (x ∷ xs) = one (p x) (few_pass p xs)
  where
    one : (b : Bool) → length (filter p xs) ≤ length xs → length (cond b (x ∷ filter p xs) (filter p xs)) ≤ length (x ∷ xs)
    one true rest = omega (arith, rest)
    one false rest = omega (arith, rest)
