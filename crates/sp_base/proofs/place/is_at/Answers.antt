use Rattle.std.proofs.Common.{◌∙◌}
use Rattle.std.proofs.lemmas.Bool.{le-ltb}
use Rattle.sp_base.proofs.Placed.{has_at, not_at}
use Rattle.sp_base.proofs.place.is_at.Goals as goal

pub returns-then-at-list : goal.returns-then-at-list
returns-then-at-list c = has_at c.args.list.now c.args.n c.args.at c.requires.rising c.requires.place c.if-at-list.true

pub returns-else-at-list : goal.returns-else-at-list
returns-else-at-list c = le-ltb _ _ c.if-at-list.false ∙ not_at c.args.list.now c.args.n c.args.at c.requires.place c.if-at-list.false
