use Rattle.std.proofs.Common.{List, sym, ap, ◌∙◌, subst}
use Rattle.sp_group.specs.Family.{entry_at}
use Rattle.sp_tree.specs.declared.version.Version.{Version as Branch}
use Rattle.sp_tree.specs.Branches.{branches, AreFalling}
use Rattle.sp_tree.specs.Grown.{label_of}
use Rattle.sp_tree.proofs.Renewed.{some_entry, no_entry}
use Rattle.sp_tree.proofs.Searched.{falling}
use Rattle.sp_tree.proofs.tree.Tree.label.Goals as goal

pub find-requires : goal.find-requires
find-requires g c = subst AreFalling (sym c.deref.ensures.value) (falling c.self.inside.versions.items c.self.inside.values c.self.invariant.both)

pub returns-in-Some : goal.returns-in-Some
returns-in-Some g c =
    let at = sym (ap (λ (z : List Branch). entry_at branches z c.args.id) c.deref.ensures.value) ∙ sym c.in-Some.ensures in
    let e = some_entry c.self.inside.versions.items c.self.inside.values.entries c.args.id c.in-Some.version.now c.self.invariant.both.ids at in
    rw (← c.self.view_is) (ap label_of (sym e.1))

pub returns-in-None : goal.returns-in-None
returns-in-None g c =
    let at = sym (ap (λ (z : List Branch). entry_at branches z c.args.id) c.deref.ensures.value) ∙ sym c.in-None.ensures in
    let e = no_entry c.self.inside.versions.items c.self.inside.values.entries c.args.id c.self.invariant.both.ids at in
    rw (← c.self.view_is) (ap label_of (sym e))
