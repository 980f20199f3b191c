use Rattle.std.proofs.Common.{refl, sym, ap, subst}
use Rattle.std.proofs.lemmas.Result.{err_from_is_err_and}
use Rattle.sp_group.specs.declared.step.Step.TheVariants as s
use Rattle.sp_group.specs.Steps as steps
use Rattle.sp_core.specs.declared.answer.Answer.TheVariants as a
use Rattle.sp_core.specs.Benched.{Benched, CanTake}
use Rattle.sp_core.proofs.OnTheBench.{still_on, still_fault, still_taken, still_answer}
use Rattle.sp_core.proofs.bench.Bench.feed.Goals as goal

pub invariant_of-self-2 : goal.invariant_of-self-2
invariant_of-self-2 c = still_on c.bench_laws.ensures c.self.inside.core c.self.inside.pieces.items c.self.invariant (s.Feed c.args.event) refl c.feed.new.self c.in_ok-feed.ensures.done (λ _. subst (λ (b : Benched). CanTake b (s.Feed c.args.event)) (sym c.self.view_is) c.requires)

pub returns-in_err-feed-clause-fault : goal.returns-in_err-feed-clause-fault
returns-in_err-feed-clause-fault c =
    let p = err_from_is_err_and c.from_residual.result c.from_residual.ensures.1 in
    rw (p.1, p.2) (still_fault c.bench_laws.ensures c.self.inside.core c.self.inside.pieces.items c.self.invariant (s.Feed c.args.event) refl c.args.self.now c.self.view_is c.in_err-feed.field-0.0 c.in_err-feed.ensures.fault)

pub returns-clause-done : goal.returns-clause-done
returns-clause-done c = still_taken c.bench_laws.ensures c.self.inside.core c.self.inside.pieces.items c.self.invariant (s.Feed c.args.event) refl c.args.self.now c.self.view_is c.feed.new.self c.in_ok-feed.ensures.done

pub returns-clause-answer : goal.returns-clause-answer
returns-clause-answer c = still_answer c.bench_laws.ensures c.self.inside.core c.self.inside.pieces.items c.self.invariant (s.Feed c.args.event) refl c.args.self.now c.self.view_is (a.Fed c.in_ok-feed.field-0) (ap steps.Fed c.in_ok-feed.ensures.number)
