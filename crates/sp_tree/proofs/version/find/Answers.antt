use Rattle.std.proofs.Common.{Some, sym, ap, ◌∙◌}
use Rattle.sp_tree.specs.declared.version.Version.{Version as Branch}
use Rattle.sp_tree.proofs.Searched.{found_at}
use Rattle.sp_tree.proofs.version.find.Goals as goal

pub returns : goal.returns
returns c =
    let at = c.in_ok-index.ensures.some in
    let v = c.index-versions-index.result in
    ap (λ (z : Branch). Some z) c.index-versions-index.is
    ∙ sym (found_at c.requires.top c.args.versions.now c.args.id c.in_ok-index.index v c.requires.falls at.0 (at.1 v))
