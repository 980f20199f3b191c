use Rattle.std.proofs.Common.{ap, refl, arith}
use Rattle.sp_group.specs.declared.step.Step.TheVariants as s
use Rattle.sp_group.specs.Steps.{out_count}
use Rattle.sp_core.specs.Running.{Running}
use Rattle.sp_splitter.proofs.Stepping.{goes_step, within_once}
use Rattle.sp_splitter.proofs.splitter.Splitter.feed.Goals as goal

pub returns-clause-goes : goal.returns-clause-goes
returns-clause-goes g c = λ n.
    goes_step n (s.Feed c.args.event) c.args.self.now.core c.feed.new.self c.known.ensures c.in_ok-number.ensures.done refl

pub returns-clause-within : goal.returns-clause-within
returns-clause-within g c = λ n batch.
    let same = ap (λ (z : Running). out_count z.machine) c.in_ok-number.ensures.done.1 in
    within_once n batch (s.Feed c.args.event) c.args.self.now.core c.feed.new.self c.known.ensures c.in_ok-number.ensures.done refl (omega arith)
