use Rattle.std.proofs.Common.{◌∙◌}
use Rattle.sp_tree.proofs.Zipped.{found_joined}
use Rattle.sp_tree.proofs.tree.Tree.get.Goals as goal

pub returns : goal.returns
returns g c = rw (← c.self.view_is) (c.get.ensures ∙ found_joined c.self.inside.versions.items c.self.inside.values.entries c.args.id c.self.invariant.both.ids)
