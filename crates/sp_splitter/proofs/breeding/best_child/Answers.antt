use Rattle.std.proofs.Common.{◌+◌, get_or, sym, subst, ◌∙◌, arith}
use Rattle.sp_chance.specs.Shares.{share_of}
use Rattle.sp_splitter.specs.Bearing.{IsFoundAmong}
use Rattle.sp_splitter.proofs.Likeliest.{found_all, found_more}
use Rattle.sp_splitter.proofs.breeding.best_child.Goals as goal

pub loop-id-init : goal.loop-id-init
loop-id-init c k low = absurd (omega (arith, low))

pub loop-id-preserved : goal.loop-id-preserved
loop-id-preserved c =
    subst (IsFoundAmong c.args.core.now c.args.tree.now (share_of c.args.chances.now) (λ k. get_or c.deref-id-items.result.now k 0) (c.loop-id.id-index + 1)) (sym c.better-best.ensures)
    (found_more c.args.core.now c.args.tree.now c.requires.tree (share_of c.args.chances.now) (λ k. get_or c.deref-id-items.result.now k 0) c.loop-id.id-index c.loop-id.best c.in_ok-child.child
    c.loop-id.invariant c.in_ok-child.ensures)

pub returns : goal.returns
returns c =
    found_all c.args.core.now c.args.tree.now c.requires.tree (share_of c.args.chances.now) c.deref-id-items.result.now (c.deref-id-items.ensures.value ∙ c.in_ok-ids.ensures) c.loop-id.id-index c.loop-id-test.false
    c.loop-id.best c.loop-id.invariant
