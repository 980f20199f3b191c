use Rattle.std.proofs.Common.{◌++◌, ℕ, List, sym, ap, subst, ◌∙◌}
use Rattle.std.specs.List.Sorted.{IsPermutation}
use Rattle.sp_group.specs.Family.{entry_at}
use Rattle.sp_tree.specs.declared.version.Version.{Version as Branch}
use Rattle.sp_tree.specs.Branches.{branches, AreFalling}
use Rattle.sp_tree.specs.Shape.{shape_of, ids_below}
use Rattle.sp_tree.proofs.Searched.{falling}
use Rattle.sp_tree.proofs.Ways.{children_read, children_none}
use Rattle.sp_tree.proofs.tree.Tree.children.Goals as goal

pub find-requires : goal.find-requires
find-requires g c = subst AreFalling (sym c.deref.ensures.value) (falling c.self.inside.versions.items c.self.inside.values c.self.invariant.both)

pub returns-in_default : goal.returns-in_default
returns-in_default g c =
    let at = sym (ap (λ (z : List Branch). entry_at branches z c.args.id) c.deref.ensures.value) ∙ sym c.in_default.ensures in
    rw (← c.self.view_is) (c.new-ids.ensures.items ∙ children_none c.self.inside.versions.items c.self.inside.values c.args.id c.self.invariant at)

pub returns : goal.returns
returns g c =
    let at = sym (ap (λ (z : List Branch). entry_at branches z c.args.id) c.deref.ensures.value) ∙ sym c.in-Some.ensures in
    let v = c.in-Some.version.now in
    let ids = c.in_ok-add_ids.ensures ∙ ap (λ (l : List ℕ). l ++ ids_below (shape_of v.below)) c.new-ids.ensures.items in
    let perm = subst (λ (l : List ℕ). IsPermutation l c.sort_unstable.new.self.items) ids c.sort_unstable.ensures.permutation in
    rw (← c.self.view_is) (children_read c.self.inside.versions.items c.self.inside.values c.args.id v c.sort_unstable.new.self.items c.self.invariant at perm c.sort_unstable.ensures.sorted)
