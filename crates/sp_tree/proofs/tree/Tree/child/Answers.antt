use Rattle.std.proofs.Common.{List, subst}
use Rattle.std.specs.Prelude.{IfSome}
use Rattle.sp_tree.specs.declared.version.Version.{Version as Branch}
use Rattle.sp_tree.specs.Branches.{IsChildAt, AreNoChild}
use Rattle.sp_tree.specs.Grown.{IsChild}
use Rattle.sp_tree.specs.Joined.{joined}
use Rattle.sp_tree.proofs.Opened.{if_some, is_child, lacks_child}
use Rattle.sp_tree.proofs.tree.Tree.child.Goals as goal

pub returns-clause-some : goal.returns-clause-some
returns-clause-some g c = rw (← c.self.view_is) (if_some c.child_of.result (IsChildAt c.self.inside.versions.items c.args.parent c.args.label.now) (IsChild (joined c.self.inside.versions.items c.self.inside.values.entries) c.args.parent c.args.label.now)
    (λ id k. is_child c.self.inside.versions.items c.self.inside.values c.args.parent c.args.label.now id c.self.invariant k)
    (subst (λ (z : List Branch). IfSome c.child_of.result (IsChildAt z c.args.parent c.args.label.now)) c.deref.ensures.value c.child_of.ensures.some))

pub returns-clause-none : goal.returns-clause-none
returns-clause-none g c = rw (← c.self.view_is) (λ none. lacks_child c.self.inside.versions.items c.self.inside.values.entries c.args.parent c.args.label.now c.self.invariant.both.ids
    (subst (λ (z : List Branch). AreNoChild z c.args.parent c.args.label.now) c.deref.ensures.value (c.child_of.ensures.none none)))
