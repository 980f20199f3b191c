use Rattle.std.proofs.Common.{ℕ, List, length, sym, ap, subst, ◌∙◌, arith}
use Rattle.std.specs.Prelude.{IsTrue}
use Rattle.sp_base.specs.Numbers.{is_among}
use Rattle.sp_group.specs.Family.{prune}
use Rattle.sp_tree.specs.Changes.{decided}
use Rattle.sp_tree.specs.Grown.{Entry, Grown, kin, groups_of, is_open, lifted, AreRooted}
use Rattle.sp_tree.specs.Joined.{joined}
use Rattle.sp_tree.proofs.Same.{joined_seen, both_seen}
use Rattle.sp_tree.proofs.Renewed.{some_entry}
use Rattle.sp_tree.proofs.Searched.{falling}
use Rattle.sp_tree.proofs.Trees.{decided_tree}
use Rattle.sp_tree.proofs.Zipped.{length_values, length_pruned, rooted_pruned}
use Rattle.sp_tree.proofs.tree.Tree.decide.Goals as goal

pub cut_below-requires : goal.cut_below-requires
cut_below-requires g c = falling c.self.inside.versions.items c.self.inside.values c.self.invariant.both

pub prune-requires-clause-joined : goal.prune-requires-clause-joined
prune-requires-clause-joined g c = both_seen c.self.inside.versions.items c.cut_below.new.versions.items c.self.inside.values (sym c.cut_below.ensures.seen) c.self.invariant.both

pub overflow_sub-result : goal.overflow_sub-result
overflow_sub-result g c =
    let was = joined_seen c.cut_below.new.versions.items c.self.inside.versions.items c.self.inside.values.entries c.cut_below.ensures.seen in
    let entries = c.prune.ensures.entries ∙ ap (prune kin (lifted (decided c.args.owner c.args.run c.args.outcome))) was in
    let old = length_values c.self.inside.versions.items c.self.inside.values.entries c.self.invariant.both.ids in
    let new = length_values c.prune.new.versions.items c.prune.new.values.entries c.prune.ensures.joined.ids in
    let less = length_pruned (lifted (decided c.args.owner c.args.run c.args.outcome)) (joined c.self.inside.versions.items c.self.inside.values.entries) in
    let same = ap length entries in
    let a = c.live.ensures.live in let b = c.live-live.ensures.live in omega arith

pub invariant_of-self : goal.invariant_of-self
invariant_of-self g c =
    let was = joined_seen c.cut_below.new.versions.items c.self.inside.versions.items c.self.inside.values.entries c.cut_below.ensures.seen in
    let entries = c.prune.ensures.entries ∙ ap (prune kin (lifted (decided c.args.owner c.args.run c.args.outcome))) was in
    let mine = subst (λ (t : Grown g.row.V.Denot). IsTrue (is_open t c.args.owner c.args.run)) (sym c.self.view_is) c.requires in
    let hung = decided_tree c.self.inside.versions.items c.cut_below.new.versions.items c.prune.new.versions.items c.self.inside.values c.prune.new.values c.args.owner c.args.run c.args.outcome c.self.invariant
    (λ v at. (let e = some_entry c.self.inside.versions.items c.self.inside.values.entries c.args.owner v c.self.invariant.both.ids at in ap (λ (l : List ℕ). is_among l c.args.run) (sym (ap groups_of e.1)) ∙ mine))
    c.cut_below.ensures.shapes c.prune.ensures.shapes c.prune.ensures.joined.ids entries in
    record {
      both = c.prune.ensures.joined;
      rooted = subst AreRooted (sym entries) (rooted_pruned (lifted (decided c.args.owner c.args.run c.args.outcome)) (joined c.self.inside.versions.items c.self.inside.values.entries));
      family = hung.family;
      hung = hung.hung;
    }

pub returns-clause-tree : goal.returns-clause-tree
returns-clause-tree g c =
    let was = joined_seen c.cut_below.new.versions.items c.self.inside.versions.items c.self.inside.values.entries c.cut_below.ensures.seen in
    let entries = c.prune.ensures.entries ∙ ap (prune kin (lifted (decided c.args.owner c.args.run c.args.outcome))) was in
    let next = c.prune.ensures.rest.0 in let bound = c.prune.ensures.rest.1 in
    rw (← c.self.view_is)
    (ap (λ (l : List (Entry g.row.V.Denot)). let t : Grown g.row.V.Denot = record { entries = l; next = c.prune.new.values.next; bound = c.prune.new.values.bound } in t) entries
    ∙ ap (λ (n : ℕ). let t : Grown g.row.V.Denot = record { entries = prune kin (lifted (decided c.args.owner c.args.run c.args.outcome)) (joined c.self.inside.versions.items c.self.inside.values.entries); next = n; bound = c.prune.new.values.bound } in t) next
    ∙ ap (λ (n : ℕ). let t : Grown g.row.V.Denot = record { entries = prune kin (lifted (decided c.args.owner c.args.run c.args.outcome)) (joined c.self.inside.versions.items c.self.inside.values.entries); next = c.self.inside.values.next; bound = n } in t) bound)

pub returns-clause-count : goal.returns-clause-count
returns-clause-count g c =
    let was = joined_seen c.cut_below.new.versions.items c.self.inside.versions.items c.self.inside.values.entries c.cut_below.ensures.seen in
    let entries = c.prune.ensures.entries ∙ ap (prune kin (lifted (decided c.args.owner c.args.run c.args.outcome))) was in
    let old = length_values c.self.inside.versions.items c.self.inside.values.entries c.self.invariant.both.ids in
    let new = length_values c.prune.new.versions.items c.prune.new.values.entries c.prune.ensures.joined.ids in
    let less = length_pruned (lifted (decided c.args.owner c.args.run c.args.outcome)) (joined c.self.inside.versions.items c.self.inside.values.entries) in
    let same = ap length entries in
    let a = c.live.ensures.live in let b = c.live-live.ensures.live in rw (← c.self.view_is) (omega arith)
