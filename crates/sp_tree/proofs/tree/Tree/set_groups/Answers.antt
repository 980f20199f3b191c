use Rattle.std.proofs.Common.{◌≡◌, true, List, length, sym, subst}
use Rattle.std.specs.Prelude.{IsSome}
use Rattle.std.specs.List.{All}
use Rattle.sp_base.specs.Numbers.{is_among}
use Rattle.sp_group.specs.Family.{entry_at}
use Rattle.sp_tree.specs.declared.version.Version.{Version as Branch}
use Rattle.sp_tree.specs.Branches.{branches, AreFalling, HasMissing, HasBelow}
use Rattle.sp_tree.specs.Grown.{Grown, kin, groups_of}
use Rattle.sp_tree.proofs.Searched.{falling}
use Rattle.sp_tree.proofs.Opened.{on_err}
use Rattle.sp_tree.proofs.Filled.{live_there, has_child, filled_tree}
use Rattle.sp_tree.proofs.tree.Tree.set_groups.Goals as goal

pub make_missing-requires-clause-fall : goal.make_missing-requires-clause-fall
make_missing-requires-clause-fall g c = subst AreFalling (sym c.deref.ensures.value) (falling c.self.inside.versions.items c.self.inside.values c.self.invariant.both)

pub make_missing-requires-clause-live : goal.make_missing-requires-clause-live
make_missing-requires-clause-live g c =
    let live = subst (λ (t : Grown g.row.V.Denot). IsSome (entry_at kin t.entries c.args.owner)) (sym c.self.view_is) c.requires.live in
    subst (λ (z : List Branch). IsSome (entry_at branches z c.args.owner)) (sym c.deref.ensures.value) (live_there c.self.inside.versions.items c.self.inside.values c.args.owner c.self.invariant live)

pub fill-requires-clause-fall : goal.fill-requires-clause-fall
fill-requires-clause-fall g c = falling c.self.inside.versions.items c.self.inside.values c.self.invariant.both

pub fill-requires-clause-live : goal.fill-requires-clause-live
fill-requires-clause-live g c =
    let live = subst (λ (t : Grown g.row.V.Denot). IsSome (entry_at kin t.entries c.args.owner)) (sym c.self.view_is) c.requires.live in
    live_there c.self.inside.versions.items c.self.inside.values c.args.owner c.self.invariant live

pub fill-requires-clause-spare : goal.fill-requires-clause-spare
fill-requires-clause-spare g c = subst (λ (z : List Branch). HasMissing z c.args.owner c.args.groups (length c.in_ok-spare.spare.items)) c.deref.ensures.value c.in_ok-spare.ensures.made

pub invariant_of-self : goal.invariant_of-self
invariant_of-self g c =
    let more = subst (λ (t : Grown g.row.V.Denot). All (λ r. is_among c.args.groups r ≡ true) (groups_of (entry_at kin t.entries c.args.owner))) (sym c.self.view_is) c.requires.more in
    (filled_tree c.self.inside.versions.items c.self.inside.values c.args.owner c.args.groups c.fill.new.versions.items c.self.invariant c.fill.ensures more).0

pub returns-clause-with : goal.returns-clause-with
returns-clause-with g c =
    let more = subst (λ (t : Grown g.row.V.Denot). All (λ r. is_among c.args.groups r ≡ true) (groups_of (entry_at kin t.entries c.args.owner))) (sym c.self.view_is) c.requires.more in
    rw (← c.self.view_is) (filled_tree c.self.inside.versions.items c.self.inside.values c.args.owner c.args.groups c.fill.new.versions.items c.self.invariant c.fill.ensures more).1

pub returns-in_err-spare-clause-child : goal.returns-in_err-spare-clause-child
returns-in_err-spare-clause-child g c =
    let live = subst (λ (t : Grown g.row.V.Denot). IsSome (entry_at kin t.entries c.args.owner)) (sym c.self.view_is) c.requires.live in
    let below = subst (λ (z : List Branch). HasBelow z c.args.owner) c.deref.ensures.value c.in_err-spare.ensures.some in
    rw (← c.self.view_is) (on_err c.from_residual.result _ (has_child c.self.inside.versions.items c.self.inside.values c.args.owner c.self.invariant live below))
