use Rattle.std.proofs.Common.{sym, ap, ◌∙◌}
use Rattle.sp_tree.specs.Branches.{root_among}
use Rattle.sp_tree.specs.Joined.{joined}
use Rattle.sp_tree.proofs.Zipped.{root_joined, root_there, none_is}
use Rattle.sp_tree.proofs.tree.Tree.root.Goals as goal

pub returns-clause-root : goal.returns-clause-root
returns-clause-root g c = rw (← c.self.view_is) (c.root_of.ensures ∙ ap root_among c.deref.ensures.value ∙ root_joined c.self.inside.versions.items c.self.inside.values.entries c.self.invariant.both.ids)

pub returns-clause-none : goal.returns-clause-none
returns-clause-none g c =
    let same = c.root_of.ensures ∙ ap root_among c.deref.ensures.value ∙ root_joined c.self.inside.versions.items c.self.inside.values.entries c.self.invariant.both.ids in
    rw (← c.self.view_is) (λ none. root_there (joined c.self.inside.versions.items c.self.inside.values.entries) c.self.invariant.rooted (sym same ∙ none_is c.root_of.result none))
