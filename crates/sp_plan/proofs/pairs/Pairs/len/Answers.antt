use Rattle.std.proofs.Common.{length, sym, ◌∙◌, ap, arith}
use Rattle.sp_plan.proofs.Pages.{length_shown}
use Rattle.sp_plan.proofs.pairs.Pairs.len.Goals as goal

pub returns : goal.returns
returns c =
    let it = c.self.inside in
    let shown = sym (length_shown it.pages.items it.paged it.tail.items c.self.invariant) ∙ ap length c.self.view_is in
    omega (arith, shown)
