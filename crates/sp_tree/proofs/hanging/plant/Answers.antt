use Rattle.std.proofs.Common.{◌≡◌, ℕ, set, ◌≤◌, List, length, Option, Some, refl, sym, ap, subst, ◌∙◌}
use Rattle.sp_tree.specs.declared.version.Version.{Version as Branch}
use Rattle.sp_tree.specs.Branches.{IsIndex, HasVertices, AreReshaped, at_one}
use Rattle.sp_tree.specs.Shape.{shape_of, planted, unplanted}
use Rattle.sp_tree.proofs.Searched.{found_read}
use Rattle.sp_tree.proofs.Same.{seen_set}
use Rattle.sp_tree.proofs.Seen.{reshaped_at}
use Rattle.sp_tree.proofs.hanging.plant.Goals as goal

pub plant-requires : goal.plant-requires
plant-requires c =
    let vs = c.args.versions.now.items in
    let v = c.index_mut-above.result.now in
    let at = subst (λ (z : List Branch). IsIndex z c.in-Some.parent c.in-Some-index_of.index) c.deref.ensures.value c.in-Some-index_of.ensures.some in
    let spare = subst (λ (o : Option ℕ). HasVertices vs o c.args.label.now (length c.args.spare.items)) c.in-Some.is c.requires.spare in
    subst (λ (l : List ℕ). unplanted l c.args.label.now (shape_of v.below) ≤ length c.args.spare.items) (sym c.runs.ensures.list)
    (spare v (found_read vs c.in-Some.parent c.in-Some-index_of.index v c.requires.fall at c.index_mut-above.ensures.value))

pub returns-in-Some-index_of-clause-seen : goal.returns-in-Some-index_of-clause-seen
returns-in-Some-index_of-clause-seen c =
    let v = c.index_mut-above.result.now in
    let at = subst (λ (z : List Branch). IsIndex z c.in-Some.parent c.in-Some-index_of.index) c.deref.ensures.value c.in-Some-index_of.ensures.some in
    let w : Branch = record v { below = c.plant.new.self } in
    seen_set c.args.versions.now.items c.in-Some-index_of.index v w at.0 c.index_mut-above.ensures.value refl

pub returns-in-Some-index_of-clause-shapes : goal.returns-in-Some-index_of-clause-shapes
returns-in-Some-index_of-clause-shapes c =
    let vs = c.args.versions.now.items in
    let v = c.index_mut-above.result.now in
    let at = subst (λ (z : List Branch). IsIndex z c.in-Some.parent c.in-Some-index_of.index) c.deref.ensures.value c.in-Some-index_of.ensures.some in
    let w : Branch = record v { below = c.plant.new.self } in
    let shape : shape_of w.below ≡ planted v.groups c.args.label.now c.args.id (shape_of v.below) =
    c.plant.ensures ∙ ap (λ (l : List ℕ). planted l c.args.label.now c.args.id (shape_of v.below)) c.runs.ensures.list in
    let mine : Some v.id ≡ c.args.parent = ap (λ (n : ℕ). Some n) (ap (λ (z : Branch). z.id) c.index_mut-above.ensures.value ∙ at.1 v) ∙ sym c.in-Some.is in
    let r = reshaped_at vs c.in-Some-index_of.index v w (λ groups. planted groups c.args.label.now c.args.id) c.requires.fall at.0 c.index_mut-above.ensures.value refl shape in
    λ id x there. subst (λ (o : Option ℕ). AreReshaped (at_one o (λ groups. planted groups c.args.label.now c.args.id)) vs (set vs c.in-Some-index_of.index w)) mine r id x there
