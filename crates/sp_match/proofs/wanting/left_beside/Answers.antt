use Rattle.std.proofs.Common.{◌≡◌, length, ap, arith}
use Rattle.sp_match.specs.inside.Kept.{kept, pairs}
use Rattle.sp_match.proofs.NamesAreCounted.{bound_and_left}
use Rattle.sp_match.proofs.wanting.left_beside.Goals as goal

pub overflow_sub-result : goal.overflow_sub-result
overflow_sub-result c =
    let names : length c.as_slice.result.now ≡ length c.args.plan.now.names = ap length c.as_slice.ensures in
    let both = bound_and_left c.args.plan.now (pairs (kept c.args.run.now)) c.requires.compiled in
    omega (arith, names, both, c.requires.negated)

pub overflow_sub-result-2 : goal.overflow_sub-result-2
overflow_sub-result-2 c =
    let names : length c.as_slice.result.now ≡ length c.args.plan.now.names = ap length c.as_slice.ensures in
    let both = bound_and_left c.args.plan.now (pairs (kept c.args.run.now)) c.requires.compiled in
    omega (arith, names, both, c.requires.good.counted, c.requires.negated)

pub returns-clause-left : goal.returns-clause-left
returns-clause-left c =
    let names : length c.as_slice.result.now ≡ length c.args.plan.now.names = ap length c.as_slice.ensures in
    let both = bound_and_left c.args.plan.now (pairs (kept c.args.run.now)) c.requires.compiled in
    omega (arith, names, both, c.requires.good.counted, c.requires.negated)
