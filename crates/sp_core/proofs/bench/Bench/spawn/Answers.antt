use Rattle.std.proofs.Common.{refl, ap, subst}
use Rattle.std.proofs.lemmas.Result.{err_from_is_err_and}
use Rattle.sp_group.specs.declared.step.Step.TheVariants as s
use Rattle.sp_group.specs.Rising.{IsLabel}
use Rattle.sp_group.specs.Steps as steps
use Rattle.sp_core.specs.declared.answer.Answer.TheVariants as a
use Rattle.sp_core.proofs.OnTheBench.{still_on, still_fault, still_taken, still_answer}
use Rattle.sp_core.proofs.bench.Bench.spawn.Goals as goal

pub invariant_of-self-2 : goal.invariant_of-self-2
invariant_of-self-2 c = still_on c.bench_laws.ensures c.self.inside.core c.self.inside.pieces.items c.self.invariant (s.Spawn c.args.parent c.args.label) refl c.spawn.new.self c.in_ok-spawn.ensures.done (subst IsLabel c.runs.ensures.list c.runs.ensures.label)

pub returns-in_err-spawn-clause-fault : goal.returns-in_err-spawn-clause-fault
returns-in_err-spawn-clause-fault c =
    let p = err_from_is_err_and c.from_residual.result c.from_residual.ensures.1 in
    rw (p.1, p.2) (still_fault c.bench_laws.ensures c.self.inside.core c.self.inside.pieces.items c.self.invariant (s.Spawn c.args.parent c.args.label) refl c.args.self.now c.self.view_is c.in_err-spawn.field-0.0 c.in_err-spawn.ensures.fault)

pub returns-clause-done : goal.returns-clause-done
returns-clause-done c = still_taken c.bench_laws.ensures c.self.inside.core c.self.inside.pieces.items c.self.invariant (s.Spawn c.args.parent c.args.label) refl c.args.self.now c.self.view_is c.spawn.new.self c.in_ok-spawn.ensures.done

pub returns-clause-answer : goal.returns-clause-answer
returns-clause-answer c = still_answer c.bench_laws.ensures c.self.inside.core c.self.inside.pieces.items c.self.invariant (s.Spawn c.args.parent c.args.label) refl c.args.self.now c.self.view_is (a.Spawned c.in_ok-spawn.field-0) (ap steps.Spawned c.in_ok-spawn.ensures.id)
