use Rattle.std.proofs.Common.{◌≡◌, ◌++◌, ℕ, List, None, Some, refl, sym, ap, subst, ◌∙◌}
use Rattle.std.proofs.lemmas.Bool.{false≢true}
use Rattle.sp_group.specs.declared.outcome.Outcome.{Outcome}
use Rattle.sp_group.specs.Family.{entry_at}
use Rattle.sp_tree.specs.declared.version.Version.{Version as Branch}
use Rattle.sp_tree.specs.Branches.{branches, AreFalling}
use Rattle.sp_tree.specs.Shape.{shape_of, way}
use Rattle.sp_tree.specs.Paths.{completed_in}
use Rattle.sp_tree.specs.Grown.{parent_of}
use Rattle.sp_tree.proofs.Renewed.{some_entry, no_entry}
use Rattle.sp_tree.proofs.Searched.{falling}
use Rattle.sp_tree.proofs.Ways.{parent_live, path_edges, path_labels}
use Rattle.sp_tree.proofs.tree.Tree.path.Goals as goal

pub find-requires : goal.find-requires
find-requires g c = subst AreFalling (sym c.deref.ensures.value) (falling c.self.inside.versions.items c.self.inside.values c.self.invariant.both)

pub find-requires-2 : goal.find-requires-2
find-requires-2 g c = subst AreFalling (sym c.deref-2.ensures.value) (falling c.self.inside.versions.items c.self.inside.values c.self.invariant.both)

pub returns-in_default-clause-none : goal.returns-in_default-clause-none
returns-in_default-clause-none g c =
    let at = sym (ap (λ (z : List Branch). entry_at branches z c.args.id) c.deref.ensures.value) ∙ sym c.in_default.ensures in
    let none = no_entry c.self.inside.versions.items c.self.inside.values.entries c.args.id c.self.invariant.both.ids at in
    rw (← c.self.view_is) ((λ _. ap parent_of none), (λ _. refl))

pub returns-in_default-parent-clause-none : goal.returns-in_default-parent-clause-none
returns-in_default-parent-clause-none g c =
    let at = sym (ap (λ (z : List Branch). entry_at branches z c.args.id) c.deref.ensures.value) ∙ sym c.in-Some.ensures in
    let e = some_entry c.self.inside.versions.items c.self.inside.values.entries c.args.id c.in-Some.version.now c.self.invariant.both.ids at in
    rw (← c.self.view_is) ((λ _. ap parent_of e.1 ∙ c.in_default-parent.is), (λ _. refl))

pub unreachable-requires : goal.unreachable-requires
unreachable-requires g c =
    let at = sym (ap (λ (z : List Branch). entry_at branches z c.args.id) c.deref.ensures.value) ∙ sym c.in-Some.ensures in
    let none = sym (ap (λ (z : List Branch). entry_at branches z c.in-Some-parent.parent) c.deref-2.ensures.value) ∙ sym c.in_default-find.ensures in
    parent_live c.self.inside.versions.items c.self.inside.values c.args.id c.in-Some-parent.parent c.in-Some.version.now c.self.invariant at c.in-Some-parent.is none

pub returns-clause-none : goal.returns-clause-none
returns-clause-none g c =
    let at = sym (ap (λ (z : List Branch). entry_at branches z c.args.id) c.deref.ensures.value) ∙ sym c.in-Some.ensures in
    let e = some_entry c.self.inside.versions.items c.self.inside.values.entries c.args.id c.in-Some.version.now c.self.invariant.both.ids at in
    let up = ap parent_of e.1 ∙ c.in-Some-parent.is in
    rw (← c.self.view_is) ((λ z. absurd (false≢true (sym z))), (λ z. let no_parent : None ≡ Some c.in-Some-parent.parent = sym z ∙ up in absurd (cc)))

pub returns-clause-edges : goal.returns-clause-edges
returns-clause-edges g c =
    let at = sym (ap (λ (z : List Branch). entry_at branches z c.args.id) c.deref.ensures.value) ∙ sym c.in-Some.ensures in
    let above = sym (ap (λ (z : List Branch). entry_at branches z c.in-Some-parent.parent) c.deref-2.ensures.value) ∙ sym c.in-Some-find.ensures in
    let v = c.in-Some.version.now in
    let items = c.in_ok-add_way.ensures ∙ ap (λ (l : List (ℕ × Outcome)). l ++ way v.label (shape_of c.in-Some-find.above.now.below)) c.new-path.ensures.items in
    rw (← c.self.view_is) (items ∙ path_edges c.self.inside.versions.items c.self.inside.values c.args.id c.in-Some-parent.parent v c.in-Some-find.above.now c.self.invariant at c.in-Some-parent.is above)

pub returns-clause-label : goal.returns-clause-label
returns-clause-label g c =
    let at = sym (ap (λ (z : List Branch). entry_at branches z c.args.id) c.deref.ensures.value) ∙ sym c.in-Some.ensures in
    let above = sym (ap (λ (z : List Branch). entry_at branches z c.in-Some-parent.parent) c.deref-2.ensures.value) ∙ sym c.in-Some-find.ensures in
    let v = c.in-Some.version.now in
    let items = c.in_ok-add_way.ensures ∙ ap (λ (l : List (ℕ × Outcome)). l ++ way v.label (shape_of c.in-Some-find.above.now.below)) c.new-path.ensures.items in
    rw (← c.self.view_is) (ap (λ (l : List (ℕ × Outcome)). Some (completed_in l)) items ∙ path_labels c.self.inside.versions.items c.self.inside.values c.args.id c.in-Some-parent.parent v c.in-Some-find.above.now c.self.invariant at c.in-Some-parent.is above)
