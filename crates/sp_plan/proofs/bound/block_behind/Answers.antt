use Rattle.std.proofs.Common.{◌≡◌, ◌≢◌, ◌<◌, ◌-◌, get_or, length, sym, ◌∙◌, ap, subst, arith}
use Rattle.std.proofs.lemmas.Bool.Decides.{nat_tests}
use Rattle.sp_plan.specs.declared.pairs.Pair.{Pair}
use Rattle.sp_plan.specs.Blocks.{IsBlock}
use Rattle.sp_plan.proofs.Blocks.{block_own, block_next}
use Rattle.sp_plan.proofs.bound.block_behind.Goals as goal

pub returns-then-last-name : goal.returns-then-last-name
returns-then-last-name c =
    let pairs = c.args.pairs.now in
    let last : Pair = c.at-last.result.now in
    let some : 0 < length pairs = omega arith in
    let item : last ≡ get_or pairs (length pairs - 1) last = c.at-last.ensures ∙ ap (λ n. get_or pairs (n - 1) last) c.len-length.ensures in
    let same : last.name ≡ c.args.name = grind (arith, nat_tests, c.if-last-name.true) in
    block_own pairs last c.args.name c.requires some item same

pub returns-else-last-name : goal.returns-else-last-name
returns-else-last-name c =
    let pairs = c.args.pairs.now in
    let last : Pair = c.at-last.result.now in
    let some : 0 < length pairs = omega arith in
    let item : last ≡ get_or pairs (length pairs - 1) last = c.at-last.ensures ∙ ap (λ n. get_or pairs (n - 1) last) c.len-length.ensures in
    let differs : last.name ≢ c.args.name = grind (arith, nat_tests, c.if-last-name.false) in
    subst (λ n. IsBlock pairs c.args.name n) (sym c.len-length.ensures) (block_next pairs last c.args.name some item differs)
