use Rattle.std.proofs.Common.{◌≡◌, ℕ, None, sym, subst}
use Rattle.sp_group.specs.declared.step.Step.TheVariants as s
use Rattle.sp_core.specs.Leasing.{IsLent}
use Rattle.sp_core.specs.Running.{refused}
use Rattle.sp_core.proofs.machine.Core.lend.Goals as goal

pub put_out-requires-clause-lent : goal.put_out-requires-clause-lent
put_out-requires-clause-lent c =
    let is = c.in_ok-lent.ensures in
    subst (λ (id : ℕ). IsLent c.args.self.now id c.args.count c.in_ok-lent.lent) (sym is.version) is.lent

pub put_out-requires-clause-passes : goal.put_out-requires-clause-passes
put_out-requires-clause-passes c = subst (λ (id : ℕ). refused c.args.self.now (s.Lease id c.args.count) ≡ None) (sym c.in_ok-lent.ensures.version) c.requires.passes
