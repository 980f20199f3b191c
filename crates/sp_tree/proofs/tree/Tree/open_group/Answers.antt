use Rattle.std.proofs.Common.{◌≡◌, ℕ, List, sym, ap, subst, ◌∙◌}
use Rattle.std.specs.Prelude.{IsSome}
use Rattle.sp_base.specs.Numbers.{is_among, with_number}
use Rattle.sp_group.specs.Family.{entry_at}
use Rattle.sp_tree.specs.declared.version.Version.{Version as Branch}
use Rattle.sp_tree.specs.Branches.{branches, AreFalling}
use Rattle.sp_tree.specs.Grown.{Entry, Grown, kin, groups_of, with_all_groups, with_group}
use Rattle.sp_tree.proofs.Renewed.{some_entry}
use Rattle.sp_tree.proofs.Opened.{on_ok, not_live}
use Rattle.sp_tree.proofs.Filled.{to_all, among_with, opened_regrouped}
use Rattle.sp_tree.proofs.Searched.{falling}
use Rattle.sp_tree.proofs.tree.Tree.open_group.Goals as goal

pub find-requires : goal.find-requires
find-requires g c = subst AreFalling (sym c.deref.ensures.value) (falling c.self.inside.versions.items c.self.inside.values c.self.invariant.both)

pub insert-requires-clause-new : goal.insert-requires-clause-new
insert-requires-clause-new g c =
    let at = sym (ap (λ (z : List Branch). entry_at branches z c.args.owner) c.deref.ensures.value) ∙ sym c.in-Some.ensures in
    let e = some_entry c.self.inside.versions.items c.self.inside.values.entries c.args.owner c.in-Some.version.now c.self.invariant.both.ids at in
    let mine : groups_of (entry_at kin c.args.self.now.entries c.args.owner) ≡ c.in-Some.version.now.groups =
    ap (λ (t : Grown g.row.V.Denot). groups_of (entry_at kin t.entries c.args.owner)) (sym c.self.view_is) ∙ ap groups_of e.1 in
    ap (λ (l : List ℕ). is_among l c.args.run) (c.in_ok-groups-in-Some.ensures ∙ sym mine) ∙ c.requires.new

pub set_groups-requires-clause-more : goal.set_groups-requires-clause-more
set_groups-requires-clause-more g c =
    let at = sym (ap (λ (z : List Branch). entry_at branches z c.args.owner) c.deref.ensures.value) ∙ sym c.in-Some.ensures in
    let e = some_entry c.self.inside.versions.items c.self.inside.values.entries c.args.owner c.in-Some.version.now c.self.invariant.both.ids at in
    let mine : groups_of (entry_at kin c.args.self.now.entries c.args.owner) ≡ c.in-Some.version.now.groups =
    ap (λ (t : Grown g.row.V.Denot). groups_of (entry_at kin t.entries c.args.owner)) (sym c.self.view_is) ∙ ap groups_of e.1 in
    let new : c.insert.new.self ≡ with_number (groups_of (entry_at kin c.args.self.now.entries c.args.owner)) c.args.run =
    c.in_ok-insert-in-Some.ensures.with ∙ ap (λ (l : List ℕ). with_number l c.args.run) (c.in_ok-groups-in-Some.ensures ∙ sym mine) in
    to_all c.insert.new.self (groups_of (entry_at kin c.args.self.now.entries c.args.owner))
    (λ r m. ap (λ (l : List ℕ). is_among l r) new ∙ among_with (groups_of (entry_at kin c.args.self.now.entries c.args.owner)) c.args.run r m)

pub returns-in_ok-insert-in-Some-clause-with : goal.returns-in_ok-insert-in-Some-clause-with
returns-in_ok-insert-in-Some-clause-with g c =
    let at = sym (ap (λ (z : List Branch). entry_at branches z c.args.owner) c.deref.ensures.value) ∙ sym c.in-Some.ensures in
    let e = some_entry c.self.inside.versions.items c.self.inside.values.entries c.args.owner c.in-Some.version.now c.self.invariant.both.ids at in
    let mine : groups_of (entry_at kin c.args.self.now.entries c.args.owner) ≡ c.in-Some.version.now.groups =
    ap (λ (t : Grown g.row.V.Denot). groups_of (entry_at kin t.entries c.args.owner)) (sym c.self.view_is) ∙ ap groups_of e.1 in
    let new : c.insert.new.self ≡ with_number (groups_of (entry_at kin c.args.self.now.entries c.args.owner)) c.args.run =
    c.in_ok-insert-in-Some.ensures.with ∙ ap (λ (l : List ℕ). with_number l c.args.run) (c.in_ok-groups-in-Some.ensures ∙ sym mine) in
    let same : with_all_groups c.args.self.now c.args.owner c.insert.new.self ≡ with_group c.args.self.now c.args.owner c.args.run =
    ap (with_all_groups c.args.self.now c.args.owner) new
    ∙ ap (λ (l : List (Entry g.row.V.Denot)). record c.args.self.now { entries = l }) (opened_regrouped c.args.owner c.args.run c.args.self.now.entries) in
    on_ok c.set_groups.result (c.set_groups.new.self ≡ with_all_groups c.args.self.now c.args.owner c.insert.new.self) (c.set_groups.new.self ≡ with_group c.args.self.now c.args.owner c.args.run)
    (λ h. h ∙ same) c.set_groups.ensures.with

pub returns-in-None-clause-with : goal.returns-in-None-clause-with
returns-in-None-clause-with g c =
    let none = sym (ap (λ (z : List Branch). entry_at branches z c.args.owner) c.deref.ensures.value) ∙ sym c.in-None.ensures in
    absurd (not_live c.self.inside.versions.items c.self.inside.values c.args.owner c.self.invariant none
    (subst (λ (t : Grown g.row.V.Denot). IsSome (entry_at kin t.entries c.args.owner)) (sym c.self.view_is) c.requires.live))
