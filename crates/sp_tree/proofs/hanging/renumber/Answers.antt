use Rattle.std.proofs.Common.{◌≡◌, ℕ, set, List, Option, Some, refl, sym, ap, subst, ◌∙◌}
use Rattle.sp_tree.specs.declared.version.Version.{Version as Branch}
use Rattle.sp_tree.specs.Branches.{IsIndex, AreReshaped, at_one}
use Rattle.sp_tree.specs.Shape.{renumbered}
use Rattle.sp_tree.proofs.Same.{seen_set}
use Rattle.sp_tree.proofs.Seen.{reshaped_at}
use Rattle.sp_tree.proofs.hanging.renumber.Goals as goal

pub returns-in-Some-index_of-clause-seen : goal.returns-in-Some-index_of-clause-seen
returns-in-Some-index_of-clause-seen c =
    let v = c.index_mut-above.result.now in
    let at = subst (λ (z : List Branch). IsIndex z c.in-Some.parent c.in-Some-index_of.index) c.deref.ensures.value c.in-Some-index_of.ensures.some in
    let w : Branch = record v { below = c.renumber.new.self } in
    seen_set c.args.versions.now.items c.in-Some-index_of.index v w at.0 c.index_mut-above.ensures.value refl

pub returns-in-Some-index_of-clause-shapes : goal.returns-in-Some-index_of-clause-shapes
returns-in-Some-index_of-clause-shapes c =
    let vs = c.args.versions.now.items in
    let v = c.index_mut-above.result.now in
    let at = subst (λ (z : List Branch). IsIndex z c.in-Some.parent c.in-Some-index_of.index) c.deref.ensures.value c.in-Some-index_of.ensures.some in
    let w : Branch = record v { below = c.renumber.new.self } in
    let mine : Some v.id ≡ c.args.parent = ap (λ (n : ℕ). Some n) (ap (λ (z : Branch). z.id) c.index_mut-above.ensures.value ∙ at.1 v) ∙ sym c.in-Some.is in
    let r = reshaped_at vs c.in-Some-index_of.index v w (λ groups. renumbered c.args.label.now c.args.id) c.requires at.0 c.index_mut-above.ensures.value refl c.renumber.ensures in
    λ id x there. subst (λ (o : Option ℕ). AreReshaped (at_one o (λ groups. renumbered c.args.label.now c.args.id)) vs (set vs c.in-Some-index_of.index w)) mine r id x there
