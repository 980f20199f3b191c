use Rattle.std.proofs.Common.{◌≤◌, ℕ, List, length, sym, subst}
use Rattle.sp_tree.specs.declared.version.Version.{Version as Branch}
use Rattle.sp_tree.specs.Branches.{IsIndex}
use Rattle.sp_tree.specs.Shape.{shape_of, unfilled}
use Rattle.sp_tree.proofs.Searched.{found_read}
use Rattle.sp_tree.proofs.hanging.fill.Goals as goal

pub fill-requires : goal.fill-requires
fill-requires c =
    let vs = c.args.versions.now.items in
    let v = c.index_mut-version.result.now in
    let at = subst (λ (z : List Branch). IsIndex z c.args.owner c.in-Some.index) c.deref.ensures.value c.in-Some.ensures.some in
    subst (λ (l : List ℕ). unfilled l (shape_of v.below) ≤ length c.args.spare.items) (sym c.runs.ensures.list)
    (c.requires.spare v (found_read vs c.args.owner c.in-Some.index v c.requires.fall at c.index_mut-version.ensures.value))
