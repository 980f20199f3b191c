use Rattle.std.proofs.Common.{◌∙◌, sym, subst, ◌≤◌, ℕ}
use Rattle.sp_tree.proofs.Zipped.{length_values, fall_joined}
use Rattle.sp_tree.specs.Children.{AreFamily}
use Rattle.sp_tree.proofs.Seen.{seen_joined}
use Rattle.sp_tree.proofs.tree.Tree.live.Goals as goal

pub returns-clause-live : goal.returns-clause-live
returns-clause-live g c =
    let n = length_values c.self.inside.versions.items c.self.inside.values.entries c.self.invariant.both.ids in
    rw (← c.self.view_is) (c.live.ensures.live ∙ sym n)

pub returns-clause-grown : goal.returns-clause-grown
returns-clause-grown g c =
    let n = length_values c.self.inside.versions.items c.self.inside.values.entries c.self.invariant.both.ids in
    rw (← c.self.view_is) (record {
      fall = fall_joined c.self.inside.values.next c.self.inside.versions.items c.self.inside.values.entries c.self.invariant.both.ids c.self.invariant.both.fall;
      most = subst (λ (k : ℕ). k ≤ c.self.inside.values.bound) (sym n) c.live.ensures.listed.most;
      rooted = c.self.invariant.rooted;
    })

pub returns-clause-family : goal.returns-clause-family
returns-clause-family g c = rw (← c.self.view_is) (subst AreFamily (sym (seen_joined c.self.inside.versions.items c.self.inside.values.entries c.self.invariant.both.ids)) c.self.invariant.family)
