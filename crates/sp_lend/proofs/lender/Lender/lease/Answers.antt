use Rattle.std.proofs.Common.{sym, subst}
use Rattle.sp_group.specs.declared.step.Step.TheVariants as s
use Rattle.sp_lend.specs.Truth.{StaysTrue}
use Rattle.sp_lend.proofs.TrueAfter.{newly_lent, true_after}
use Rattle.sp_lend.proofs.lender.Lender.lease.Goals as goal

pub invariant_of-self : goal.invariant_of-self
invariant_of-self g c =
    let stays = subst StaysTrue (sym c.self.view_is) c.stays.ensures in
    (c.self.invariant.0, true_after c.self.inside.core c.lease.new.self c.self.inside.front stays c.self.invariant.1 (s.Lease c.args.version c.args.count) tt c.lease.result c.lease.ensures.done c.lease.ensures.err)

pub invariant_of-self-2 : goal.invariant_of-self-2
invariant_of-self-2 g c =
    let stays = subst StaysTrue (sym c.self.view_is) c.stays.ensures in
    (c.self.invariant.0, true_after c.self.inside.core c.lease.new.self c.self.inside.front stays c.self.invariant.1 (s.Lease c.args.version c.args.count) tt c.lease.result c.lease.ensures.done c.lease.ensures.err)

pub enter-receipt-requires : goal.enter-receipt-requires
enter-receipt-requires g c = record {
  lent = newly_lent c.self.inside.core c.lease.new.self c.args.version c.args.count c.in_ok-job.job c.in_ok-job.ensures.done c.in_ok-job.ensures.job;
}
