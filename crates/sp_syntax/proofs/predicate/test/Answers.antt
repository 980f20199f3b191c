use Rattle.std.proofs.Common.{ℕ, ◌∷◌, ◌++◌, [], sym, ap, ◌∙◌, Some}
use Rattle.sp_query.specs.Grammar.{compare, Sum, TestOf}
use Rattle.sp_query.specs.Same.{SameTree}
use Rattle.sp_syntax.specs.Printing.{Prints, compare_mark}
use Rattle.sp_syntax.proofs.Adding.{on_ok, adds_nothing, adds_infix}
use Rattle.sp_syntax.proofs.Spelled.{mark_spelled}
use Rattle.sp_syntax.proofs.Ranks.{prints_infix, test_bad}
use Rattle.sp_syntax.proofs.Families.{no_test, compare_reads}
use Rattle.sp_syntax.proofs.predicate.test.Goals as goal

pub returns-in_default : goal.returns-in_default
returns-in_default c = adds_nothing _ _ (no_test c.args.tree.now c.in_default.not-Test)

pub returns-in_default-two : goal.returns-in_default-two
returns-in_default-two c = adds_nothing _ _ (λ room. test_bad (Sum room) compare c.args.tree.now (λ a b e. c.in_default-two.ensures a b (c.as_slice.ensures ∙ e)))

pub returns : goal.returns
returns c =
    let x = c.in-Test.compare in
    on_ok _ _ _ (λ g. adds_infix _ _ _ _ (c.comparison.result.now ++ 32 ∷ []) _ _ (λ z. (room : ℕ) → Prints (TestOf (Sum room)) SameTree c.args.tree.now z) c.in_ok-expression.ensures c.in_ok-token.ensures g
    (λ y z p q room. prints_infix (Sum room) (Sum room) compare c.args.tree.now _ _ (compare_mark x) c.comparison.result.now y z (compare_reads x ∙ ap (λ o. Some o) (sym c.in-Test.is)) (sym c.as_slice.ensures ∙ c.in-Some.ensures)
    (mark_spelled (compare_mark x) c.comparison.result.now (sym c.comparison.ensures)) (p room) (q room))) c.expression-2.ensures
