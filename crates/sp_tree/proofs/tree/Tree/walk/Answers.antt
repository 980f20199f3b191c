use Rattle.std.proofs.Common.{◌≡◌, ℕ, List, map, reverse, ap, subst, ◌∙◌}
use Rattle.std.specs.Prelude.{IfOk}
use Rattle.sp_tree.specs.declared.version.Version.{Version as Branch}
use Rattle.sp_tree.proofs.Renewed.{ids_joined, map_reversed}
use Rattle.sp_tree.proofs.tree.Tree.walk.Goals as goal

pub returns : goal.returns
returns g c =
    let e = ap (λ (z : List Branch). map (λ (v : Branch). v.id) (reverse z)) c.deref.ensures.value
    ∙ map_reversed c.self.inside.versions.items
    ∙ ap reverse (ids_joined c.self.inside.versions.items c.self.inside.values.entries c.self.invariant.both.ids) in
    rw (← c.self.view_is) (subst (λ (l : List ℕ). IfOk c.ids_of.result (λ ids. ids.items ≡ l)) e c.ids_of.ensures)
