use Rattle.std.specs.Prelude.{IfSome}
use Rattle.sp_group.specs.Family.{entry_at}
use Rattle.sp_tree.proofs.Trees.{promoted_tree}
use Rattle.std.proofs.Common.{◌≡◌, ℕ, [], Option, sym, ap, subst, ◌∙◌}
use Rattle.sp_tree.specs.Changes.{promoted}
use Rattle.sp_tree.specs.Branches.{root_among}
use Rattle.sp_tree.specs.Grown.{Grown, kin, groups_of, root_in, lifted, AreRooted, without_root}
use Rattle.sp_tree.specs.Joined.{joined}
use Rattle.sp_tree.proofs.Zipped.{root_joined, root_there, none_is, rooted_pruned}
use Rattle.sp_tree.proofs.tree.Tree.promote.Goals as goal

pub returns-in_err-root-clause-tree : goal.returns-in_err-root-clause-tree
returns-in_err-root-clause-tree g c =
    let same = c.root_of.ensures ∙ ap root_among c.deref.ensures.value ∙ root_joined c.self.inside.versions.items c.self.inside.values.entries c.self.invariant.both.ids in
    let none = sym same ∙ c.in_err-root.was in
    rw (← c.self.view_is) (ap (without_root _) (sym none))

pub returns-in_err-root-clause-root : goal.returns-in_err-root-clause-root
returns-in_err-root-clause-root g c =
    let same = c.root_of.ensures ∙ ap root_among c.deref.ensures.value ∙ root_joined c.self.inside.versions.items c.self.inside.values.entries c.self.invariant.both.ids in
    let none = sym same ∙ c.in_err-root.was in
    rw (← c.self.view_is) (c.from_residual.ensures ∙ sym none)

pub returns-in_err-root-clause-none : goal.returns-in_err-root-clause-none
returns-in_err-root-clause-none g c =
    let same = c.root_of.ensures ∙ ap root_among c.deref.ensures.value ∙ root_joined c.self.inside.versions.items c.self.inside.values.entries c.self.invariant.both.ids in
    let none = sym same ∙ c.in_err-root.was in
    rw (← c.self.view_is) (λ _. root_there (joined c.self.inside.versions.items c.self.inside.values.entries) c.self.invariant.rooted none)

pub invariant_of-self : goal.invariant_of-self
invariant_of-self g c =
    let same = c.root_of.ensures ∙ ap root_among c.deref.ensures.value in
    let root_is = sym same ∙ c.in_ok-root.was in
    let some = sym (root_joined c.self.inside.versions.items c.self.inside.values.entries c.self.invariant.both.ids) ∙ root_is in
    let bare = subst (λ (t : Grown g.row.V.Denot). IfSome (root_in t.entries) (λ root. groups_of (entry_at kin t.entries root) ≡ [])) (sym c.self.view_is) c.requires.groups in
    let mine = subst (λ (o : Option ℕ). IfSome o (λ root. groups_of (entry_at kin (joined c.self.inside.versions.items c.self.inside.values.entries) root) ≡ [])) some bare in
    let hung = promoted_tree c.self.inside.versions.items c.prune.new.versions.items c.self.inside.values c.prune.new.values c.in_ok-root.root c.self.invariant root_is mine c.prune.ensures.shapes c.prune.ensures.joined.ids c.prune.ensures.entries in
    record {
      family = hung.family;
      hung = hung.hung;
      both = c.prune.ensures.joined;
      rooted = subst AreRooted (sym c.prune.ensures.entries) (rooted_pruned (lifted (promoted c.in_ok-root.root)) (joined c.self.inside.versions.items c.self.inside.values.entries));
    }

pub returns-clause-tree : goal.returns-clause-tree
returns-clause-tree g c =
    let same = c.root_of.ensures ∙ ap root_among c.deref.ensures.value ∙ root_joined c.self.inside.versions.items c.self.inside.values.entries c.self.invariant.both.ids in
    let some = sym same ∙ c.in_ok-root.was in
    let entries = c.prune.ensures.entries in let next = c.prune.ensures.rest.0 in let bound = c.prune.ensures.rest.1 in
    rw (← c.self.view_is, entries, next, bound) (ap (without_root _) (sym some))

pub returns-clause-root : goal.returns-clause-root
returns-clause-root g c = c.root_of-2.ensures ∙ ap root_among c.deref-2.ensures.value ∙ root_joined c.prune.new.versions.items c.prune.new.values.entries c.prune.ensures.joined.ids

pub returns-clause-none : goal.returns-clause-none
returns-clause-none g c =
    let same = c.root_of-2.ensures ∙ ap root_among c.deref-2.ensures.value ∙ root_joined c.prune.new.versions.items c.prune.new.values.entries c.prune.ensures.joined.ids in
    let rooted = subst AreRooted (sym c.prune.ensures.entries) (rooted_pruned (lifted (promoted c.in_ok-root.root)) (joined c.self.inside.versions.items c.self.inside.values.entries)) in
    λ none. root_there (joined c.prune.new.versions.items c.prune.new.values.entries) rooted (sym same ∙ none_is c.root_of-2.result none)
