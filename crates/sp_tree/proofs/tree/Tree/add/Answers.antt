use Rattle.std.proofs.Common.{◌≡◌, ℕ, List, [], ◌∷◌, map, sym, ap, subst, ◌∙◌, refl, arith, if◌then◌else◌}
use Rattle.sp_group.specs.Rising.{IsLabel}
use Rattle.sp_tree.specs.declared.vertex.Below as code
use Rattle.sp_tree.specs.declared.version.Version.{Version as Branch}
use Rattle.sp_tree.specs.Version.{Version}
use Rattle.sp_tree.specs.Branches.{seen, at_one, AreFalling, AreReshaped}
use Rattle.sp_tree.specs.Shape.{planted}
use Rattle.sp_tree.specs.Grown.{Grown, CanStand}
use Rattle.sp_tree.specs.Joined.{IsTree}
use Rattle.sp_tree.specs.Faults.{IsAddFault}
use Rattle.sp_tree.proofs.Added.{if_ok, added, added_is}
use Rattle.sp_tree.proofs.Renewed.{tree}
use Rattle.sp_tree.proofs.Same.{seen_length}
use Rattle.sp_tree.proofs.Searched.{falling}
use Rattle.sp_tree.proofs.Zipped.{length_values, fault_joined}
use Rattle.sp_tree.proofs.tree.Tree.add.Goals as goal

pub returns-then-live-bound-clause-fault : goal.returns-then-live-bound-clause-fault
returns-then-live-bound-clause-fault g c =
    let n = length_values c.self.inside.versions.items c.self.inside.values.entries c.self.invariant.both.ids in
    rw (← c.self.view_is) (c.live-live.ensures.live ∙ sym n, c.bound-bound.ensures, c.if-live-bound.true, refl)

pub returns-then-is_err-clause-fault : goal.returns-then-is_err-clause-fault
returns-then-is_err-clause-fault g c =
    let n = length_values c.self.inside.versions.items c.self.inside.values.entries c.self.invariant.both.ids in
    let a = c.live-live.ensures.live in let b = c.live-live.ensures.most in let d = c.bound-bound.ensures in let e = c.if-live-bound.false in
    rw (← c.self.view_is) (omega arith, refl)

pub returns-in-Ok-put-clause-room : goal.returns-in-Ok-put-clause-room
returns-in-Ok-put-clause-room g c =
    let n = length_values c.self.inside.versions.items c.self.inside.values.entries c.self.invariant.both.ids in
    let r = c.in-Ok-put.ensures.room in
    rw (← c.self.view_is) (omega arith)

pub returns-in-Err-clause-fault : goal.returns-in-Err-clause-fault
returns-in-Err-clause-fault g c =
    subst (λ (t : Grown g.row.V.Denot). IsAddFault t c.args.value c.in-Err.fault) c.self.view_is
    (fault_joined c.self.inside.versions.items c.self.inside.values c.args.value c.in-Err.fault c.self.invariant.both.ids c.in-Err.ensures.fault)

pub make_way-requires : goal.make_way-requires
make_way-requires g c = subst AreFalling (sym c.deref.ensures.value) (falling c.self.inside.versions.items c.self.inside.values c.self.invariant.both)

pub returns-in_default-clause-fault : goal.returns-in_default-clause-fault
returns-in_default-clause-fault g c =
    let n = length_values c.self.inside.versions.items c.self.inside.values.entries c.self.invariant.both.ids in
    let a = c.live-live.ensures.live in let b = c.live-live.ensures.most in let d = c.bound-bound.ensures in let e = c.if-live-bound.false in
    rw (← c.self.view_is) (omega arith, refl)

pub plant-requires-clause-fall : goal.plant-requires-clause-fall
plant-requires-clause-fall g c = subst AreFalling (sym c.reserve.ensures.items) (falling c.self.inside.versions.items c.self.inside.values c.self.invariant.both)

pub invariant_of-self-in-Ok-put : goal.invariant_of-self-in-Ok-put
invariant_of-self-in-Ok-put g c =
    let vs = c.self.inside.versions.items in
    let values = c.self.inside.values in
    let w : Branch = record { id = c.in-Ok-put.id; parent = c.args.parent; label = c.args.label; groups = c.empty.result; below = code.Nothing } in
    let enough = if_ok c.reserve.result _ c.reserve.ensures.ok (sym c.if-is_err.ensures.value) in
    let room = c.plant.ensures.room in let long = seen_length c.plant.new.versions.items c.reserve.new.self.items c.plant.ensures.seen in
    let a = c.plant.new.versions.ok.0 in let b = c.reserve.new.self.ok.0 in
    let done = c.insert.ensures.succeeds (omega arith) in
    let items : c.insert.new.self.items ≡ w ∷ c.plant.new.versions.items =
    c.insert.ensures.items ∙ ap (λ b. if b then (w ∷ c.plant.new.versions.items) else c.plant.new.versions.items) done in
    let seen_is = c.plant.ensures.seen ∙ ap (map seen) c.reserve.ensures.items in
    let new_is : seen w ≡ record { id = values.next; parent = c.args.parent; label = c.args.label; groups = [] } =
    ap (λ (n : ℕ). let z : Version = record { id = n; parent = c.args.parent; label = c.args.label; groups = c.empty.result } in z) c.in-Ok-put.ensures.id
    ∙ ap (λ (l : List ℕ). let z : Version = record { id = values.next; parent = c.args.parent; label = c.args.label; groups = l } in z) c.empty.ensures in
    let stands = subst (λ (t : Grown g.row.V.Denot). CanStand t c.args.parent c.args.label) (sym c.self.view_is) c.requires.stands in
    let change = subst (λ (l : List Branch). AreReshaped (at_one c.args.parent (λ groups. planted groups c.args.label c.in-Ok-put.id)) l c.plant.new.versions.items) c.reserve.ensures.items c.plant.ensures.shapes in
    let mine = subst (λ (n : ℕ). AreReshaped (at_one c.args.parent (λ groups. planted groups c.args.label n)) vs c.plant.new.versions.items) c.in-Ok-put.ensures.id change in
    let whole = added vs values c.args.parent c.args.label c.self.invariant stands c.plant.new.versions.items c.args.value w (subst IsLabel c.label.view_is c.label.invariant) seen_is mine new_is refl in
    subst (λ (l : List Branch). IsTree l c.put.new.self) (sym items) (subst (IsTree (w ∷ c.plant.new.versions.items)) (sym c.in-Ok-put.ensures.stored) whole)

pub returns-in-Ok-put-clause-added : goal.returns-in-Ok-put-clause-added
returns-in-Ok-put-clause-added g c =
    let vs = c.self.inside.versions.items in
    let values = c.self.inside.values in
    let w : Branch = record { id = c.in-Ok-put.id; parent = c.args.parent; label = c.args.label; groups = c.empty.result; below = code.Nothing } in
    let enough = if_ok c.reserve.result _ c.reserve.ensures.ok (sym c.if-is_err.ensures.value) in
    let room = c.plant.ensures.room in let long = seen_length c.plant.new.versions.items c.reserve.new.self.items c.plant.ensures.seen in
    let a = c.plant.new.versions.ok.0 in let b = c.reserve.new.self.ok.0 in
    let done = c.insert.ensures.succeeds (omega arith) in
    let items : c.insert.new.self.items ≡ w ∷ c.plant.new.versions.items =
    c.insert.ensures.items ∙ ap (λ b. if b then (w ∷ c.plant.new.versions.items) else c.plant.new.versions.items) done in
    let seen_is = c.plant.ensures.seen ∙ ap (map seen) c.reserve.ensures.items in
    let new_is : seen w ≡ record { id = values.next; parent = c.args.parent; label = c.args.label; groups = [] } =
    ap (λ (n : ℕ). let z : Version = record { id = n; parent = c.args.parent; label = c.args.label; groups = c.empty.result } in z) c.in-Ok-put.ensures.id
    ∙ ap (λ (l : List ℕ). let z : Version = record { id = values.next; parent = c.args.parent; label = c.args.label; groups = l } in z) c.empty.ensures in
    let stands = subst (λ (t : Grown g.row.V.Denot). CanStand t c.args.parent c.args.label) (sym c.self.view_is) c.requires.stands in
    let e = added_is vs values c.args.parent c.args.label c.self.invariant stands c.plant.new.versions.items c.args.value w seen_is new_is in
    rw (← c.self.view_is) (ap (λ (l : List Branch). tree l c.put.new.self) items ∙ ap (tree (w ∷ c.plant.new.versions.items)) c.in-Ok-put.ensures.stored ∙ e)
