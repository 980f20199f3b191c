use Rattle.std.proofs.Common.{◌≡◌, ℕ, set, List, Some, refl, ap, subst, ◌∙◌}
use Rattle.sp_tree.specs.declared.version.Version.{Version as Branch}
use Rattle.sp_tree.specs.Branches.{IsIndex, AreReshaped, at_one}
use Rattle.sp_tree.specs.Shape.{cut}
use Rattle.sp_tree.proofs.Same.{seen_set}
use Rattle.sp_tree.proofs.Seen.{reshaped_at}
use Rattle.sp_tree.proofs.hanging.cut_below.Goals as goal

pub returns-in-Some-clause-seen : goal.returns-in-Some-clause-seen
returns-in-Some-clause-seen c =
    let v = c.index_mut-version.result.now in
    let at = subst (λ (z : List Branch). IsIndex z c.args.owner c.in-Some.index) c.deref.ensures.value c.in-Some.ensures.some in
    let w : Branch = record v { below = c.decide.new.self } in
    seen_set c.args.versions.now.items c.in-Some.index v w at.0 c.index_mut-version.ensures.value refl

pub returns-in-Some-clause-shapes : goal.returns-in-Some-clause-shapes
returns-in-Some-clause-shapes c =
    let vs = c.args.versions.now.items in
    let v = c.index_mut-version.result.now in
    let at = subst (λ (z : List Branch). IsIndex z c.args.owner c.in-Some.index) c.deref.ensures.value c.in-Some.ensures.some in
    let w : Branch = record v { below = c.decide.new.self } in
    let mine : v.id ≡ c.args.owner = ap (λ (z : Branch). z.id) c.index_mut-version.ensures.value ∙ at.1 v in
    let r = reshaped_at vs c.in-Some.index v w (λ groups. cut c.args.run c.args.outcome) c.requires at.0 c.index_mut-version.ensures.value refl c.decide.ensures in
    λ id x there. subst (λ (n : ℕ). AreReshaped (at_one (Some n) (λ groups. cut c.args.run c.args.outcome)) vs (set vs c.in-Some.index w)) mine r id x there
