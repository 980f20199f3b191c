use Rattle.std.proofs.Common.{◌≡◌, ◌-◌, true, false, eqb, get_or, sym, ◌∙◌, ap, arith}
use Rattle.std.proofs.lemmas.Bool.Decides.{nat_tests}
use Rattle.sp_plan.specs.declared.pairs.Pair.{Pair}
use Rattle.sp_plan.proofs.Blocks.{walk_hit, walk_on}
use Rattle.sp_plan.proofs.Pages.{in_tail}
use Rattle.sp_plan.proofs.pairs.Pairs.last_of.Goals as goal

pub returns-then-pair-name : goal.returns-then-pair-name
returns-then-pair-name c =
    let it = c.self.inside in
    let at = c.loop-left.left - 1 in
    let pair : Pair = c.index-pair.result.now in
    let item : pair ≡ get_or c.args.self.now at pair =
    c.index-pair.ensures ∙ sym (in_tail it.pages.items it.paged it.tail.items at pair c.self.invariant (omega arith)) ∙ ap (λ l. get_or l at pair) c.self.view_is in
    let own : eqb pair.name c.args.name ≡ true = grind (arith, nat_tests, c.if-pair-name.true) in
    walk_hit c.args.self.now c.loop-left.left c.args.name pair (omega arith) c.loop-left.invariant.within item c.loop-left.invariant.none own

pub loop-left-smaller : goal.loop-left-smaller
loop-left-smaller c =
    let it = c.self.inside in
    let at = c.loop-left.left - 1 in
    let pair : Pair = c.index-pair.result.now in
    let item : pair ≡ get_or c.args.self.now at pair =
    c.index-pair.ensures ∙ sym (in_tail it.pages.items it.paged it.tail.items at pair c.self.invariant (omega arith)) ∙ ap (λ l. get_or l at pair) c.self.view_is in
    let other : eqb pair.name c.args.name ≡ false = grind (arith, nat_tests, c.if-pair-name.false) in
    (walk_on c.args.self.now c.loop-left.left c.args.name pair c.requires (omega arith) c.loop-left.invariant item other).0

pub loop-left-preserved : goal.loop-left-preserved
loop-left-preserved c =
    let it = c.self.inside in
    let at = c.loop-left.left - 1 in
    let pair : Pair = c.index-pair.result.now in
    let item : pair ≡ get_or c.args.self.now at pair =
    c.index-pair.ensures ∙ sym (in_tail it.pages.items it.paged it.tail.items at pair c.self.invariant (omega arith)) ∙ ap (λ l. get_or l at pair) c.self.view_is in
    let other : eqb pair.name c.args.name ≡ false = grind (arith, nat_tests, c.if-pair-name.false) in
    (walk_on c.args.self.now c.loop-left.left c.args.name pair c.requires (omega arith) c.loop-left.invariant item other).1
