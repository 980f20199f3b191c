use Rattle.std.proofs.Common.{◌≡◌, ℕ, None, sym, subst, ◌∙◌}
use Rattle.std.proofs.lemmas.Result.{err_from_is_err_and}
use Rattle.sp_group.specs.declared.step.Step.TheVariants as s
use Rattle.sp_core.specs.Leasing.{IsLent, IsLeased}
use Rattle.sp_core.specs.Running.{after, refused}
use Rattle.sp_core.proofs.machine.Core.lease.Goals as goal

pub returns-in-Some-clause-fault : goal.returns-in-Some-clause-fault
returns-in-Some-clause-fault c = sym (c.lease_refusal.ensures c.args.count) ∙ c.in-Some.is

pub lent-requires : goal.lent-requires
lent-requires c = record { passes = sym (c.lease_refusal.ensures c.args.count) ∙ c.in_default.is }

pub returns-in_err-lent-clause-fault : goal.returns-in_err-lent-clause-fault
returns-in_err-lent-clause-fault c = let p = err_from_is_err_and c.from_residual.result c.from_residual.ensures.1 in rw (p.1, p.2) tt

pub put_out-requires-clause-lent : goal.put_out-requires-clause-lent
put_out-requires-clause-lent c =
    let is = c.in_ok-lent.ensures in
    subst (λ (id : ℕ). IsLent c.args.self.now id c.args.count c.in_ok-lent.lent) (sym is.version) is.lent

pub put_out-requires-clause-passes : goal.put_out-requires-clause-passes
put_out-requires-clause-passes c =
    subst (λ (id : ℕ). refused c.args.self.now (s.Lease id c.args.count) ≡ None) (sym c.in_ok-lent.ensures.version) (sym (c.lease_refusal.ensures c.args.count) ∙ c.in_default.is)

pub returns-in_err-put_out-clause-fault : goal.returns-in_err-put_out-clause-fault
returns-in_err-put_out-clause-fault c =
    let p = err_from_is_err_and c.from_residual-in_err-put_out.result c.from_residual-in_err-put_out.ensures.1 in rw (p.1, p.2) tt

pub returns-clause-done : goal.returns-clause-done
returns-clause-done c = (
  sym (c.lease_refusal.ensures c.args.count) ∙ c.in_default.is,
  subst (λ (id : ℕ). c.put_out.new.self ≡ after c.args.self.now (s.Lease id c.args.count)) c.in_ok-lent.ensures.version c.in_ok-put_out.ensures.ok,
)

pub returns-clause-job : goal.returns-clause-job
returns-clause-job c = subst (λ (id : ℕ). IsLeased c.args.self.now id c.args.count c.in_ok-put_out.field-0) c.in_ok-lent.ensures.version c.in_ok-put_out.ensures.job
