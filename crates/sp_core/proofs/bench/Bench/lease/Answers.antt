use Rattle.std.proofs.Common.{◌≡◌, ◌∷◌, None, sym, ap, subst, ◌∙◌}
use Rattle.sp_group.specs.declared.step.Step.TheVariants as s
use Rattle.sp_group.specs.Steps.{answer}
use Rattle.sp_piece.specs.Pieced.{Pieced, begun}
use Rattle.sp_core.specs.Benched.{Benched, IsTaken, refused_by}
use Rattle.sp_core.specs.OnBench.{IsOnBench, on_bench}
use Rattle.sp_core.specs.Running.{Running, after, refused}
use Rattle.sp_core.proofs.OnTheBench.{lease_answer, lease_on, lease_refused, lease_taken}
use Rattle.sp_core.proofs.bench.Bench.lease.Goals as goal

pub returns-in-Some-clause-fault : goal.returns-in-Some-clause-fault
returns-in-Some-clause-fault c =
    ap (λ (b : Benched). refused_by b (s.Lease c.args.version c.args.count)) (sym c.self.view_is)
    ∙ lease_refused c.bench_laws.ensures c.self.inside.core c.self.inside.pieces.items c.self.invariant c.args.version c.args.count
    ∙ sym (c.lease_refusal.ensures c.args.count)
    ∙ c.in-Some.is

pub lend-requires : goal.lend-requires
lend-requires c = record { passes = sym (c.lease_refusal.ensures c.args.count) ∙ c.in_default.is }

pub invariant_of-self-2 : goal.invariant_of-self-2
invariant_of-self-2 c =
    let c0 = c.self.inside.core in
    let ps = c.self.inside.pieces.items in
    let job = c.in_ok-lent.job in
    let items : c.put_at.new.pieces.items ≡ begun job ∷ ps =
    c.put_at.ensures ∙ ap (λ (p : Pieced). p ∷ c.reserve.new.self.items) c.start.ensures ∙ ap (λ xs. begun job ∷ xs) c.reserve.ensures.items in
    let passes : refused c0 (s.Lease c.args.version c.args.count) ≡ None = sym (c.lease_refusal.ensures c.args.count) ∙ c.in_default.is in
    subst (λ (r : Running). IsOnBench r c.put_at.new.pieces.items) (sym c.in_ok-lent.ensures.ok)
    (subst (IsOnBench (after c0 (s.Lease c.args.version c.args.count))) (sym items)
    (lease_on c.bench_laws.ensures c0 ps c.self.invariant c.args.version c.args.count c.in_ok-lent.lent job c.in_ok-lent.ensures.lent c.in_ok-lent.ensures.job c.in_ok-lent.ensures.events passes))

pub returns-clause-done : goal.returns-clause-done
returns-clause-done c =
    let c0 = c.self.inside.core in
    let ps = c.self.inside.pieces.items in
    let job = c.in_ok-lent.job in
    let items : c.put_at.new.pieces.items ≡ begun job ∷ ps =
    c.put_at.ensures ∙ ap (λ (p : Pieced). p ∷ c.reserve.new.self.items) c.start.ensures ∙ ap (λ xs. begun job ∷ xs) c.reserve.ensures.items in
    let passes : refused c0 (s.Lease c.args.version c.args.count) ≡ None = sym (c.lease_refusal.ensures c.args.count) ∙ c.in_default.is in
    subst (λ (b : Benched). IsTaken (s.Lease c.args.version c.args.count) b (on_bench c.lend.new.self c.put_at.new.pieces.items)) c.self.view_is
    (subst (λ (r : Running). IsTaken (s.Lease c.args.version c.args.count) (on_bench c0 ps) (on_bench r c.put_at.new.pieces.items)) (sym c.in_ok-lent.ensures.ok)
    (subst (λ xs. IsTaken (s.Lease c.args.version c.args.count) (on_bench c0 ps) (on_bench (after c0 (s.Lease c.args.version c.args.count)) xs)) (sym items)
    (lease_taken c.bench_laws.ensures c0 ps c.self.invariant c.args.version c.args.count c.in_ok-lent.lent job c.in_ok-lent.ensures.lent c.in_ok-lent.ensures.job c.in_ok-lent.ensures.events passes)))

pub returns-clause-answer : goal.returns-clause-answer
returns-clause-answer c =
    lease_answer c.bench_laws.ensures c.self.inside.core c.self.inside.pieces.items c.self.invariant c.args.version c.args.count c.in_ok-lent.lent c.in_ok-lent.job c.in_ok-lent.ensures.lent c.in_ok-lent.ensures.job c.in_ok-lent.ensures.events
    ∙ ap (λ (b : Benched). answer b.plan b.machine (s.Lease c.args.version c.args.count)) c.self.view_is
