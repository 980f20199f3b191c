use Rattle.std.proofs.Common.{ap, ◌∙◌}
use Rattle.sp_core.specs.Holding.{holding}
use Rattle.sp_core.specs.Running.{Running}
use Rattle.sp_core.proofs.OnTheBench.{put_on}
use Rattle.sp_core.proofs.bench.Bench.new.Goals as goal

pub invariant_of-result : goal.invariant_of-result
invariant_of-result c =
    let none = ap (λ (r : Running). r.machine.tickets) c.core.view_is ∙ c.requires.none_out in
    rw (← c.core.view_is, c.new.ensures.items) (put_on (holding c.core.inside) c.core.invariant none)
