use Rattle.std.proofs.Common.{◌≡◌, List, ◌∷◌, map, Some, None, sym, ap, subst, ◌∙◌, refl, arith, if◌then◌else◌}
use Rattle.std.proofs.lemmas.Option.{none-some}
use Rattle.sp_store.specs.Stored.{Stored}
use Rattle.sp_group.specs.Family.{entry_at}
use Rattle.sp_tree.specs.declared.version.Version.{Version as Branch}
use Rattle.sp_tree.specs.declared.version.Change.TheVariants as ch
use Rattle.sp_tree.specs.Branches.{branches, seen, IsIndex, changed_by, AreFalling, AreReshaped, at_one}
use Rattle.sp_tree.specs.Shape.{renumbered}
use Rattle.sp_tree.specs.Grown.{answered, begun_anew}
use Rattle.sp_tree.specs.Joined.{AreJoined, joined, IsPrunedFrom}
use Rattle.sp_tree.proofs.Anew.{new, id_is, begins, hangs}
use Rattle.sp_tree.proofs.Renewed.{no_entry, lives}
use Rattle.sp_tree.proofs.Same.{seen_length}
use Rattle.sp_tree.proofs.Searched.{falling, falls_removed}
use Rattle.sp_tree.proofs.tree.Tree.renew.Goals as goal

pub index_of-requires : goal.index_of-requires
index_of-requires g c = subst AreFalling (sym c.deref.ensures.value) (falling c.self.inside.versions.items c.self.inside.values c.self.invariant.both)

pub returns-in_err-index-clause-id : goal.returns-in_err-index-clause-id
returns-in_err-index-clause-id g c =
    let none = no_entry c.self.inside.versions.items c.self.inside.values.entries c.args.id c.self.invariant.both.ids (subst (λ (z : List Branch). entry_at branches z c.args.id ≡ None) c.deref.ensures.value (c.in_err-index.ensures.none refl)) in
    rw (← c.self.view_is) (c.from_residual.ensures ∙ ap (answered _) (sym none))

pub returns-in_err-index-clause-tree : goal.returns-in_err-index-clause-tree
returns-in_err-index-clause-tree g c =
    let none = no_entry c.self.inside.versions.items c.self.inside.values.entries c.args.id c.self.invariant.both.ids (subst (λ (z : List Branch). entry_at branches z c.args.id ≡ None) c.deref.ensures.value (c.in_err-index.ensures.none refl)) in
    rw (← c.self.view_is) (ap (begun_anew _ c.args.id) (sym none))

pub renumber-requires : goal.renumber-requires
renumber-requires g c =
    let at = subst (λ (z : List Branch). IsIndex z c.args.id c.in_ok-index.index) c.deref.ensures.value c.in_ok-index.ensures.some in
    subst AreFalling (sym c.remove-version.ensures.items) (falls_removed c.self.inside.versions.items c.in_ok-index.index (falling c.self.inside.versions.items c.self.inside.values c.self.invariant.both) at.0)

pub prune-requires-clause-joined : goal.prune-requires-clause-joined
prune-requires-clause-joined g c =
    let vs = c.self.inside.versions.items in
    let values = c.self.inside.values in
    let v = c.remove-version.result in
    let at = subst (λ (z : List Branch). IsIndex z c.args.id c.in_ok-index.index) c.deref.ensures.value c.in_ok-index.ensures.some in
    let same = c.renumber.ensures.seen ∙ ap (map seen) c.remove-version.ensures.items in
    let w = new vs values c.args.id c.in_ok-index.index c.self.invariant at v c.remove-version.ensures.value c.in_ok-renewed.renewed c.in_ok-renewed.ensures.id c.clear.new.self c.clear.ensures c.renumber.new.versions.items same in
    let len = c.remove-version.ensures.len in let cap = c.remove-version.ensures.capacity in let ok = c.self.inside.versions.ok.1 in let room = c.renumber.ensures.room in
    let long = seen_length c.renumber.new.versions.items c.remove-version.new.self.items c.renumber.ensures.seen in
    let a = c.renumber.new.versions.ok.0 in let b = c.remove-version.new.self.ok.0 in
    let done = c.insert.ensures.succeeds (omega arith) in
    let items : c.insert.new.self.items ≡ w ∷ c.renumber.new.versions.items =
    c.insert.ensures.items ∙ ap (λ b. if b then (w ∷ c.renumber.new.versions.items) else c.renumber.new.versions.items) done in
    subst (λ (z : Stored g.row.V.Denot). AreJoined c.insert.new.self.items z) (sym c.in_ok-renewed.ensures.entries) (begins vs values c.args.id c.in_ok-index.index c.self.invariant at v c.remove-version.ensures.value c.in_ok-renewed.renewed c.in_ok-renewed.ensures.id c.clear.new.self c.clear.ensures c.renumber.new.versions.items same c.insert.new.self.items items).ready

pub invariant_of-self-2 : goal.invariant_of-self-2
invariant_of-self-2 g c =
    let vs = c.self.inside.versions.items in
    let values = c.self.inside.values in
    let v = c.remove-version.result in
    let at = subst (λ (z : List Branch). IsIndex z c.args.id c.in_ok-index.index) c.deref.ensures.value c.in_ok-index.ensures.some in
    let same = c.renumber.ensures.seen ∙ ap (map seen) c.remove-version.ensures.items in
    let w = new vs values c.args.id c.in_ok-index.index c.self.invariant at v c.remove-version.ensures.value c.in_ok-renewed.renewed c.in_ok-renewed.ensures.id c.clear.new.self c.clear.ensures c.renumber.new.versions.items same in
    let len = c.remove-version.ensures.len in let cap = c.remove-version.ensures.capacity in let ok = c.self.inside.versions.ok.1 in let room = c.renumber.ensures.room in
    let long = seen_length c.renumber.new.versions.items c.remove-version.new.self.items c.renumber.ensures.seen in
    let a = c.renumber.new.versions.ok.0 in let b = c.remove-version.new.self.ok.0 in
    let done = c.insert.ensures.succeeds (omega arith) in
    let items : c.insert.new.self.items ≡ w ∷ c.renumber.new.versions.items =
    c.insert.ensures.items ∙ ap (λ b. if b then (w ∷ c.renumber.new.versions.items) else c.renumber.new.versions.items) done in
    let entries = subst (λ (z : Stored g.row.V.Denot). IsPrunedFrom 1 (changed_by ch.Prune) (joined c.insert.new.self.items z.entries) (joined c.prune.new.versions.items c.prune.new.values.entries)) c.in_ok-renewed.ensures.entries c.prune.ensures.entries in
    let change = subst (λ (l : List Branch). AreReshaped (at_one v.parent (λ groups. renumbered v.label c.in_ok-renewed.renewed)) l c.renumber.new.versions.items) c.remove-version.ensures.items c.renumber.ensures.shapes in
    let hung = hangs vs values c.args.id c.in_ok-index.index c.self.invariant at v c.remove-version.ensures.value c.in_ok-renewed.renewed c.in_ok-renewed.ensures.id c.clear.new.self c.clear.ensures c.renumber.new.versions.items same c.insert.new.self.items c.prune.new.versions.items c.prune.new.values items change c.prune.ensures.shapes c.prune.ensures.joined
    (c.prune.ensures.rest.0 ∙ ap (λ (z : Stored g.row.V.Denot). z.next) c.in_ok-renewed.ensures.entries) (c.prune.ensures.rest.1 ∙ ap (λ (z : Stored g.row.V.Denot). z.bound) c.in_ok-renewed.ensures.entries) entries in
    record {
      both = c.prune.ensures.joined;
      rooted = (begins vs values c.args.id c.in_ok-index.index c.self.invariant at v c.remove-version.ensures.value c.in_ok-renewed.renewed c.in_ok-renewed.ensures.id c.clear.new.self c.clear.ensures c.renumber.new.versions.items same c.insert.new.self.items items).rooted (joined c.prune.new.versions.items c.prune.new.values.entries) entries;
      family = hung.family;
      hung = hung.hung;
    }

pub returns-clause-id : goal.returns-clause-id
returns-clause-id g c =
    let vs = c.self.inside.versions.items in
    let values = c.self.inside.values in
    let v = c.remove-version.result in
    let at = subst (λ (z : List Branch). IsIndex z c.args.id c.in_ok-index.index) c.deref.ensures.value c.in_ok-index.ensures.some in
    let same = c.renumber.ensures.seen ∙ ap (map seen) c.remove-version.ensures.items in
    let w = new vs values c.args.id c.in_ok-index.index c.self.invariant at v c.remove-version.ensures.value c.in_ok-renewed.renewed c.in_ok-renewed.ensures.id c.clear.new.self c.clear.ensures c.renumber.new.versions.items same in
    let len = c.remove-version.ensures.len in let cap = c.remove-version.ensures.capacity in let ok = c.self.inside.versions.ok.1 in let room = c.renumber.ensures.room in
    let long = seen_length c.renumber.new.versions.items c.remove-version.new.self.items c.renumber.ensures.seen in
    let a = c.renumber.new.versions.ok.0 in let b = c.remove-version.new.self.ok.0 in
    let done = c.insert.ensures.succeeds (omega arith) in
    let items : c.insert.new.self.items ≡ w ∷ c.renumber.new.versions.items =
    c.insert.ensures.items ∙ ap (λ b. if b then (w ∷ c.renumber.new.versions.items) else c.renumber.new.versions.items) done in
    rw (← c.self.view_is) (ap Some (id_is vs values c.args.id c.in_ok-index.index c.self.invariant at v c.remove-version.ensures.value c.in_ok-renewed.renewed c.in_ok-renewed.ensures.id c.clear.new.self c.clear.ensures c.renumber.new.versions.items same) ∙ (begins vs values c.args.id c.in_ok-index.index c.self.invariant at v c.remove-version.ensures.value c.in_ok-renewed.renewed c.in_ok-renewed.ensures.id c.clear.new.self c.clear.ensures c.renumber.new.versions.items same c.insert.new.self.items items).answer)

pub returns-clause-tree : goal.returns-clause-tree
returns-clause-tree g c =
    let vs = c.self.inside.versions.items in
    let values = c.self.inside.values in
    let v = c.remove-version.result in
    let at = subst (λ (z : List Branch). IsIndex z c.args.id c.in_ok-index.index) c.deref.ensures.value c.in_ok-index.ensures.some in
    let same = c.renumber.ensures.seen ∙ ap (map seen) c.remove-version.ensures.items in
    let w = new vs values c.args.id c.in_ok-index.index c.self.invariant at v c.remove-version.ensures.value c.in_ok-renewed.renewed c.in_ok-renewed.ensures.id c.clear.new.self c.clear.ensures c.renumber.new.versions.items same in
    let len = c.remove-version.ensures.len in let cap = c.remove-version.ensures.capacity in let ok = c.self.inside.versions.ok.1 in let room = c.renumber.ensures.room in
    let long = seen_length c.renumber.new.versions.items c.remove-version.new.self.items c.renumber.ensures.seen in
    let a = c.renumber.new.versions.ok.0 in let b = c.remove-version.new.self.ok.0 in
    let done = c.insert.ensures.succeeds (omega arith) in
    let items : c.insert.new.self.items ≡ w ∷ c.renumber.new.versions.items =
    c.insert.ensures.items ∙ ap (λ b. if b then (w ∷ c.renumber.new.versions.items) else c.renumber.new.versions.items) done in
    let entries = subst (λ (z : Stored g.row.V.Denot). IsPrunedFrom 1 (changed_by ch.Prune) (joined c.insert.new.self.items z.entries) (joined c.prune.new.versions.items c.prune.new.values.entries)) c.in_ok-renewed.ensures.entries c.prune.ensures.entries in
    rw (← c.self.view_is) ((begins vs values c.args.id c.in_ok-index.index c.self.invariant at v c.remove-version.ensures.value c.in_ok-renewed.renewed c.in_ok-renewed.ensures.id c.clear.new.self c.clear.ensures c.renumber.new.versions.items same c.insert.new.self.items items).shape (joined c.prune.new.versions.items c.prune.new.values.entries) c.prune.new.values.next c.prune.new.values.bound entries
    (c.prune.ensures.rest.0 ∙ ap (λ (z : Stored g.row.V.Denot). z.next) c.in_ok-renewed.ensures.entries)
    (c.prune.ensures.rest.1 ∙ ap (λ (z : Stored g.row.V.Denot). z.bound) c.in_ok-renewed.ensures.entries))

pub returns-in_err-renewed-clause-id : goal.returns-in_err-renewed-clause-id
returns-in_err-renewed-clause-id g c =
    let at = subst (λ (z : List Branch). IsIndex z c.args.id c.in_ok-index.index) c.deref.ensures.value c.in_ok-index.ensures.some in
    let live = lives c.self.inside.versions.items c.self.inside.values c.args.id c.in_ok-index.index c.self.invariant at in
    absurd (none-some c.self.inside.values.next (c.in_err-renewed.ensures.id ∙ live))

pub returns-in_err-renewed-clause-tree : goal.returns-in_err-renewed-clause-tree
returns-in_err-renewed-clause-tree g c =
    let at = subst (λ (z : List Branch). IsIndex z c.args.id c.in_ok-index.index) c.deref.ensures.value c.in_ok-index.ensures.some in
    let live = lives c.self.inside.versions.items c.self.inside.values c.args.id c.in_ok-index.index c.self.invariant at in
    absurd (none-some c.self.inside.values.next (c.in_err-renewed.ensures.id ∙ live))
