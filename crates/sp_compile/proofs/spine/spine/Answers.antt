use Rattle.std.proofs.Common.{◌≡◌, ◌++◌, ◌∷◌, [], sym, refl, subst, List, Bor, rules}
use Rattle.sp_query.specs.declared.tree.Tree.{Tree}
use Rattle.sp_compile.specs.Spines.{Spine, ends}
use Rattle.sp_compile.proofs.Spined.{further}
use Rattle.sp_compile.proofs.spine.spine.Goals as goal

pub loop-here-init : goal.loop-here-init
loop-here-init c = subst (λ (xs : List (Bor Tree)). Spine c.args.tree.now xs c.args.tree.now) (sym c.new-nodes.ensures.items) (ends c.args.tree.now refl)

pub loop-here-preserved : goal.loop-here-preserved
loop-here-preserved c =
    let pushed : c.push.new.self.items ≡ c.loop-here.nodes.items ++ c.loop-here.here ∷ [] = search rules in
    further c.args.tree.now c.loop-here.nodes.items _ c.loop-here.here c.left-item.result c.as_slice.result.now c.loop-here.invariant (sym c.as_slice.ensures) c.in-Add-len2.len_at_least c.in-Add-len2.len_below c.left-item.is pushed

pub returns : goal.returns
returns c = c.loop-here.invariant
