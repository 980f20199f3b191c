use Rattle.std.proofs.Common.{◌≡◌, pos, not, get_or, ap, ◌∙◌, sym, rules, w64, to_z, of_z}
use Rattle.std.proofs.lemmas.Int.{to_z-of_z}
use Rattle.sp_plan.proofs.Columns.{at_most_as, less_as}
use Rattle.sp_plan.proofs.MaskBits.{has-not}
use Rattle.sp_plan.proofs.column.HeldColumn.compared.Goals as goal

pub returns-in-Unequal : goal.returns-in-Unequal
returns-in-Unequal c = λ run short within.
    let same : to_z w64 (of_z w64 c.args.one) ≡ c.args.one = search (rules, to_z-of_z) in
    rw (c.in-Unequal.is, sym same) (has-not c.equal-in-Unequal.result run c.equal-in-Unequal.type_inv short ∙ ap not (c.equal-in-Unequal.ensures run within))

pub returns-in-Less : goal.returns-in-Less
returns-in-Less c = λ run short within.
    let same : to_z w64 (of_z w64 c.args.one) ≡ c.args.one = search (rules, to_z-of_z) in
    rw (c.in-Less.is, sym same) (has-not c.at_most.result run c.at_most.type_inv short ∙ ap not (c.at_most.ensures run within) ∙ less_as (to_z w64 (of_z w64 c.args.one)) (get_or c.args.self.now run (pos 0)))

pub returns-in-AtMost : goal.returns-in-AtMost
returns-in-AtMost c = λ run short within.
    let same : to_z w64 (of_z w64 c.args.one) ≡ c.args.one = search (rules, to_z-of_z) in
    rw (c.in-AtMost.is, sym same) (has-not c.below.result run c.below.type_inv short ∙ ap not (c.below.ensures run within) ∙ at_most_as (to_z w64 (of_z w64 c.args.one)) (get_or c.args.self.now run (pos 0)))
