use Rattle.std.proofs.Common.{sym, subst}
use Rattle.sp_lend.specs.Truth.{StaysTrue}
use Rattle.sp_lend.proofs.TrueAfter.{true_given, true_home}
use Rattle.sp_lend.proofs.lender.Lender.take_back.Goals as goal

pub invariant_of-self : goal.invariant_of-self
invariant_of-self g c =
    let stays = subst StaysTrue (sym c.self.view_is) c.stays.ensures in
    (c.self.invariant.0, true_home c.self.inside.core c.come_home.new.self c.self.inside.front stays c.self.invariant.1 c.args.piece c.come_home.result c.come_home.ensures.home c.come_home.ensures.err)

pub invariant_of-self-then-is_known : goal.invariant_of-self-then-is_known
invariant_of-self-then-is_known g c =
    let stays = subst StaysTrue (sym c.self.view_is) c.stays.ensures in
    (c.self.invariant.0, true_home c.self.inside.core c.come_home.new.self c.self.inside.front stays c.self.invariant.1 c.args.piece c.come_home.result c.come_home.ensures.home c.come_home.ensures.err)

pub invariant_of-self-else-is_known : goal.invariant_of-self-else-is_known
invariant_of-self-else-is_known g c =
    let stays = subst StaysTrue (sym c.self.view_is) c.stays.ensures in
    (c.self.invariant.0, true_given c.self.inside.core c.give_back.new.self c.self.inside.front stays c.self.invariant.1 c.args.piece c.give_back.result c.give_back.ensures.given c.give_back.ensures.err)
