use Rattle.std.proofs.Common.{ap, subst, sym}
use Rattle.sp_core.specs.Running.{Running}
use Rattle.sp_split.specs.Relieving.{AreDue}
use Rattle.sp_split.proofs.Due.{due_first}
use Rattle.sp_split.proofs.Relieved.{relayed}
use Rattle.sp_split.proofs.alone.drive_alone.Goals as goal

pub run_alone-requires-clause-due : goal.run_alone-requires-clause-due
run_alone-requires-clause-due g c κs within =
    subst (AreDue c.of.result.relay) (sym (ap (λ (d : Running). d.machine.finished) c.requires.fresh)) (due_first c.of.result.relay (ap (λ t. t.relay.gone) c.of.ensures))

pub returns-clause-crew : goal.returns-clause-crew
returns-clause-crew g c =
    relayed (λ one. (goal.Predictor-dyn g (one.vtable, one.value)).named one.value) c.args.crew c.into_crew.result c.of.result c.run_alone.new.lone.team c.in_ok-why.why c.run_alone.new.lone.core.machine.finished
    c.of.ensures c.into_crew.ensures c.in_ok-why.ensures.relieved c.in_ok-why.ensures.due
