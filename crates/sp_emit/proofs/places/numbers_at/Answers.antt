use Rattle.std.proofs.Common.{◌∷◌, ◌++◌, [], List, ℕ, ◌∙◌, ap, arith}
use Rattle.std.proofs.lemmas.Grind.{common_steps}
use Rattle.sp_emit.proofs.Commas as l
use Rattle.sp_emit.proofs.places.numbers_at.Goals as goal

pub returns-in_default : goal.returns-in_default
returns-in_default c = l.none_first _ c.in_default.ensures

pub each-init : goal.each-init
each-init c = l.sets_out _ _ _ _ (c.in_ok-push.ensures.items ∙ ap (λ (l : List ℕ). l ++ c.in-Some.first ∷ []) c.new-numbers.ensures.items) c.in-Some.ensures

pub returns-in_default-short_number_at : goal.returns-in_default-short_number_at
returns-in_default-short_number_at c = l.none_behind _ _ _ _ c.each.invariant c.in-Some-behind.ensures c.in_default-short_number_at.ensures

pub each-preserved : goal.each-preserved
each-preserved c = l.goes _ _ _ _ c.each.invariant c.in-Some-behind.ensures _ _ _ c.in_ok-push-2.ensures.items c.in-Some-short_number_at.ensures

pub each-smaller : goal.each-smaller
each-smaller c = grind (arith, common_steps)
