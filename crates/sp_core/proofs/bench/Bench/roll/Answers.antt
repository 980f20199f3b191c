use Rattle.std.proofs.Common.{refl, ap}
use Rattle.std.proofs.lemmas.Result.{err_from_is_err_and}
use Rattle.sp_group.specs.declared.step.Step.TheVariants as s
use Rattle.sp_group.specs.Steps as steps
use Rattle.sp_core.specs.declared.answer.Answer.TheVariants as a
use Rattle.sp_core.proofs.OnTheBench.{still_on, still_refused, still_taken, still_answer}
use Rattle.sp_core.proofs.bench.Bench.roll.Goals as goal

pub invariant_of-self-2 : goal.invariant_of-self-2
invariant_of-self-2 c = still_on c.bench_laws.ensures c.self.inside.core c.self.inside.pieces.items c.self.invariant (s.Roll c.args.version) refl c.roll.new.self c.in_ok-roll.ensures.done tt

pub returns-in_err-roll-clause-fault : goal.returns-in_err-roll-clause-fault
returns-in_err-roll-clause-fault c =
    let p = err_from_is_err_and c.from_residual.result c.from_residual.ensures.1 in
    rw (p.1, p.2) (still_refused c.bench_laws.ensures c.self.inside.core c.self.inside.pieces.items c.self.invariant (s.Roll c.args.version) refl c.args.self.now c.self.view_is c.in_err-roll.field-0.0 c.in_err-roll.ensures.fault)

pub returns-clause-done : goal.returns-clause-done
returns-clause-done c = still_taken c.bench_laws.ensures c.self.inside.core c.self.inside.pieces.items c.self.invariant (s.Roll c.args.version) refl c.args.self.now c.self.view_is c.roll.new.self c.in_ok-roll.ensures.done

pub returns-clause-answer : goal.returns-clause-answer
returns-clause-answer c = still_answer c.bench_laws.ensures c.self.inside.core c.self.inside.pieces.items c.self.invariant (s.Roll c.args.version) refl c.args.self.now c.self.view_is (a.Rolled c.in_ok-roll.field-0) (ap steps.Rolled c.in_ok-roll.ensures.id)
