use Rattle.std.proofs.Common.{ℕ, Option, ap, ◌∙◌, unwrap_or}
use Rattle.sp_pick.proofs.Climbing.{climb_step}
use Rattle.sp_pick.proofs.surviving.ancestor.Goals as goal

pub loop-preserved : goal.loop-preserved
loop-preserved g c =
    climb_step c.args.tree.now.entries c.loop.at c.loop.counter c.args.id c.unwrap_or-at.result c.loop.invariant
    (c.unwrap_or-at.ensures ∙ ap (λ (o : Option ℕ). unwrap_or o c.loop.at) c.parent.ensures)
