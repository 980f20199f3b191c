use Rattle.std.proofs.Common.{sym, subst}
use Rattle.sp_group.specs.declared.step.Step.TheVariants as s
use Rattle.sp_lend.specs.Truth.{StaysTrue}
use Rattle.sp_lend.proofs.TrueAfter.{true_after}
use Rattle.sp_lend.proofs.lender.Lender.roll.Goals as goal

pub invariant_of-self : goal.invariant_of-self
invariant_of-self g c =
    let stays = subst StaysTrue (sym c.self.view_is) c.stays.ensures in
    (c.self.invariant.0, true_after c.self.inside.core c.roll-rolled.new.self c.self.inside.front stays c.self.invariant.1 (s.Roll c.args.version) tt c.roll-rolled.result c.roll-rolled.ensures.done c.roll-rolled.ensures.err)

pub invariant_of-self-else-is_ok : goal.invariant_of-self-else-is_ok
invariant_of-self-else-is_ok g c =
    let stays = subst StaysTrue (sym c.self.view_is) c.stays.ensures in
    (c.self.invariant.0, true_after c.self.inside.core c.roll-rolled.new.self c.self.inside.front stays c.self.invariant.1 (s.Roll c.args.version) tt c.roll-rolled.result c.roll-rolled.ensures.done c.roll-rolled.ensures.err)
