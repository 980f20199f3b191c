use Rattle.std.proofs.Common.{ℤ, List, sym, subst, arith, w64, to_z, of_z}
use Rattle.std.proofs.lemmas.Int.{ints}
use Rattle.sp_plan.specs.Holding.{Between}
use Rattle.sp_plan.proofs.Columns.{between_put}
use Rattle.sp_plan.proofs.column.HeldColumn.put.Goals as goal

pub invariant_of-self-2 : goal.invariant_of-self-2
invariant_of-self-2 c =
    let least = to_z w64 (of_z w64 c.min-self-inside.result) in
    let greatest = to_z w64 (of_z w64 c.max-self-inside.result) in
    subst (λ (xs : List ℤ). Between xs least greatest) (sym c.in_ok-put_value.ensures.put)
    (between_put c.self.inside.values.items c.args.run c.self.inside.least c.self.inside.greatest least greatest (to_z w64 (of_z w64 c.args.value)) c.self.invariant c.requires
    (omega (arith, ints, c.min-self-inside.ensures.self_bound)) (omega (arith, ints, c.min-self-inside.ensures.other_bound)) (omega (arith, ints, c.max-self-inside.ensures.self_bound)) (omega (arith, ints, c.max-self-inside.ensures.other_bound)))
