use Rattle.std.proofs.Common.{Some, sym, ap, ◌∙◌}
use Rattle.sp_core.proofs.Roots.{live_root, root_anew}
use Rattle.sp_core.proofs.finishing.settle.Goals as goal

pub begin_anew-requires-clause-live : goal.begin_anew-requires-clause-live
begin_anew-requires-clause-live c = live_root c.args.tree.now c.in_ok-root.root c.requires.grown (sym c.root.ensures.root ∙ c.in_ok-root.was)

pub returns-then-rolls-clause-root : goal.returns-then-rolls-clause-root
returns-then-rolls-clause-root c =
    let is = sym c.root.ensures.root ∙ c.in_ok-root.was in
    ap (λ n. Some n) c.begin_anew.ensures.id
    ∙ sym (root_anew c.args.tree.now c.begin_anew.new.tree c.in_ok-root.root c.requires.grown is (c.begin_anew.ensures.tree))
