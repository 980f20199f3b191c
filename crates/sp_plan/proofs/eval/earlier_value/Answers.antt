use Rattle.std.proofs.Common.{sym, ◌∙◌, ap, rules}
use Rattle.std.specs.Option.{option_copied}
use Rattle.sp_plan.proofs.Products.{found_small}
use Rattle.sp_plan.proofs.eval.earlier_value.Goals as goal

pub returns-in-Some-clause-small : goal.returns-in-Some-clause-small
returns-in-Some-clause-small c = λ all.
    let small = c.column_value.ensures.small (found_small c.args.bound.now c.args.name c.in-Some.event.now all (sym c.get.ensures ∙ ap option_copied c.in-Some.is)) in
    search rules
