use Rattle.std.proofs.Common.{◌≡◌, ap, ◌∙◌, arith}
use Rattle.sp_match.specs.inside.Taking.{negated_count}
use Rattle.sp_match.proofs.NamesAreCounted.{names_counted}
use Rattle.sp_match.proofs.taking.negated_count.Goals as goal

pub overflow_cast-result : goal.overflow_cast-result
overflow_cast-result c =
    let all = names_counted c.args.plan.now c.requires in
    let few = c.requires.names in
    let same : c.count_negated.result ≡ negated_count c.args.plan.now.elements = c.count_negated.ensures ∙ ap negated_count c.as_slice.ensures in
    omega (arith, all, few, same)

pub returns-clause-few : goal.returns-clause-few
returns-clause-few c =
    let all = names_counted c.args.plan.now c.requires in
    let few = c.requires.names in
    let same : c.count_negated.result ≡ negated_count c.args.plan.now.elements = c.count_negated.ensures ∙ ap negated_count c.as_slice.ensures in
    omega (arith, all, few, same)
