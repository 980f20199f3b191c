use Rattle.sp_splitter.specs.Stages.{matches_of}
use Rattle.sp_split.specs.Relieving.{AreDue, Relieved}
use Rattle.sp_split.proofs.Added.{Worked}
use Rattle.sp_split.proofs.working.work_off.Given as goal

abbrev pub invariant-loop : goal.invariant-loop
invariant-loop g l = record {
  worked : Worked l.initial.core l.core (matches_of l.finished.items);
  relieved : Relieved (λ one. (goal.Predictor-dyn g (one.vtable, one.value)).named one.value) l.initial.team l.team;
  due : AreDue l.team.relay l.core.machine.finished;
}
