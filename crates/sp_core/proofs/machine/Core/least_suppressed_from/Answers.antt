use Rattle.std.proofs.Common.{◌∙◌, arith}
use Rattle.sp_core.proofs.HeldConflict.{least_from_is}
use Rattle.sp_core.proofs.machine.Core.least_suppressed_from.Goals as goal

pub returns : goal.returns
returns c =
    let now = c.args.self.now in
    c.least_suppressed.ensures
    ∙ least_from_is now.plan now.machine c.args.version c.args.first c.args.count c.args.skipped.now.list c.min-before.result (omega (arith, c.min-before.ensures))
    (λ i low high. c.requires.old i (omega (arith, c.min-before.ensures, c.saturating_sub.ensures, low, high)))
