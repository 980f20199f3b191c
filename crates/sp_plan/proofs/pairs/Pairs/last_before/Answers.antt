use Rattle.std.proofs.Common.{◌≡◌, true, false, eqb, arith}
use Rattle.std.proofs.lemmas.Bool.Decides.{nat_tests}
use Rattle.sp_plan.specs.declared.pairs.Pair.{Pair}
use Rattle.sp_plan.proofs.Blocks.{walk_hit, walk_on, walk_past}
use Rattle.sp_plan.proofs.pairs.Pairs.last_before.Goals as goal

pub returns-then-before-name : goal.returns-then-before-name
returns-then-before-name c =
    let pairs = c.args.self.now in
    let pair : Pair = c.at-before.result.now in
    let own : eqb pair.name c.args.name ≡ true = grind (arith, nat_tests, c.if-before-name.true) in
    walk_hit pairs c.loop-left.left c.args.name pair (omega arith) c.loop-left.invariant.within c.at-before.ensures c.loop-left.invariant.none own

pub loop-left-smaller : goal.loop-left-smaller
loop-left-smaller c =
    let pairs = c.args.self.now in
    let pair : Pair = c.at-before.result.now in
    let other : eqb pair.name c.args.name ≡ false = grind (arith, nat_tests, c.if-before-name.false) in
    (walk_on pairs c.loop-left.left c.args.name pair c.requires.blocked (omega arith) c.loop-left.invariant c.at-before.ensures other).0

pub loop-left-preserved : goal.loop-left-preserved
loop-left-preserved c =
    let pairs = c.args.self.now in
    let pair : Pair = c.at-before.result.now in
    let other : eqb pair.name c.args.name ≡ false = grind (arith, nat_tests, c.if-before-name.false) in
    (walk_on pairs c.loop-left.left c.args.name pair c.requires.blocked (omega arith) c.loop-left.invariant c.at-before.ensures other).1

pub returns : goal.returns
returns c = walk_past c.args.self.now c.loop-left.left c.args.name (omega arith) c.loop-left.invariant.none
