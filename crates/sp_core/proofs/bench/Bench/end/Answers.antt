use Rattle.std.proofs.Common.{refl}
use Rattle.std.proofs.lemmas.Result.{err_from_is_err_and}
use Rattle.sp_group.specs.declared.step.Step.TheVariants as s
use Rattle.sp_core.specs.declared.answer.Answer.TheVariants as a
use Rattle.sp_core.proofs.OnTheBench.{still_on, still_refused, still_taken, still_answer}
use Rattle.sp_core.proofs.bench.Bench.end.Goals as goal

pub invariant_of-self-2 : goal.invariant_of-self-2
invariant_of-self-2 c = still_on c.bench_laws.ensures c.self.inside.core c.self.inside.pieces.items c.self.invariant s.End refl c.end.new.self c.in_ok-end.ensures.done tt

pub returns-in_err-end-clause-fault : goal.returns-in_err-end-clause-fault
returns-in_err-end-clause-fault c =
    let p = err_from_is_err_and c.from_residual.result c.from_residual.ensures.1 in
    rw (p.1, p.2) (still_refused c.bench_laws.ensures c.self.inside.core c.self.inside.pieces.items c.self.invariant s.End refl c.args.self.now c.self.view_is c.in_err-end.field-0.0 c.in_err-end.ensures.fault)

pub returns-clause-done : goal.returns-clause-done
returns-clause-done c = still_taken c.bench_laws.ensures c.self.inside.core c.self.inside.pieces.items c.self.invariant s.End refl c.args.self.now c.self.view_is c.end.new.self c.in_ok-end.ensures.done

pub returns-clause-answer : goal.returns-clause-answer
returns-clause-answer c = still_answer c.bench_laws.ensures c.self.inside.core c.self.inside.pieces.items c.self.invariant s.End refl c.args.self.now c.self.view_is a.Ended refl
