use Rattle.std.proofs.Common.{◌≡◌, Err, sym, subst, rules}
use Rattle.sp_compile.specs.Answers.{ExprAnswer, PredAnswer}
use Rattle.sp_compile.proofs.Predicates.{test_is, test_faulty}
use Rattle.sp_compile.proofs.predicate.test.Goals as goal

pub returns-in_err-left : goal.returns-in_err-left
returns-in_err-left c =
    let S = c.args.scope.now in
    let h = test_faulty S c.args.texts.now c.args.tree.now c.args.left.now c.args.right.now c.args.by c.expression-left.result c.expression-right.result c.in_err-left.field-0.0 c.requires.node c.requires.parts c.expression-left.ensures c.expression-right.ensures c.in_err-left.ensures in
    let e : c.from_residual.result ≡ Err c.in_err-left.field-0.0 = search rules in
    subst (PredAnswer S c.args.texts.now c.args.tree.now) (sym e) h

pub returns : goal.returns
returns c =
    let S = c.args.scope.now in
    let b = c.in_ok-left.ensures in
    let p = subst (ExprAnswer S c.args.texts.now c.args.left.now) b.0 c.expression-left.ensures in
    let q = subst (ExprAnswer S c.args.texts.now c.args.right.now) b.1 c.expression-right.ensures in
    test_is S c.args.texts.now c.args.tree.now c.args.left.now c.args.right.now c.args.by c.in_ok-left.left c.in_ok-left.right c.comparison.result c.requires.node c.requires.parts p q c.comparison.ensures
