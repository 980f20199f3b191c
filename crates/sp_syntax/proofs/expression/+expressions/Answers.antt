use Rattle.std.proofs.Common.{◌∷◌, ◌++◌, [], codes, arith, sym, ap, ◌∙◌, refl, Some}
use Rattle.sp_lex.specs.declared.token.Kernel.TheVariants as k
use Rattle.sp_syntax.proofs.Adding.{on_ok, adds_map, adds_nothing, adds_behind, adds_between, adds_infix}
use Rattle.sp_syntax.proofs.Spelled.{mark_spelled}
use Rattle.sp_syntax.proofs.Ranks.{PrintsRoot, prints_bare, prints_bracketed, loose_prints, firm_prints, sign_prints, loose_bad, firm_bad, sign_bad}
use Rattle.sp_syntax.proofs.Families.{expressions, operand_prints}
use Rattle.sp_syntax.proofs.expression.+expressions.Goals as goal

pub expression-returns-then-rank-least : goal.expression-returns-then-rank-least
expression-returns-then-rank-least t c =
    on_ok _ _ _ (adds_map _ _ (PrintsRoot expressions c.args.tree.now) _ (λ x f. prints_bare expressions c.args.least c.args.tree.now x c.requires (omega (arith, c.rank.ensures)) f)) c.expression_root.ensures

pub expression-returns : goal.expression-returns
expression-returns t c =
    on_ok _ _ _ (λ e. adds_between _ _ _ _ (codes "(" ++ 32 ∷ []) (codes ")" ++ 32 ∷ []) (PrintsRoot expressions c.args.tree.now) _ c.in_ok-token.ensures c.in_ok-expression_root.ensures e
    (λ y f. prints_bracketed expressions c.args.least c.args.tree.now y (codes "(") (codes ")") k.LeftRound k.RightRound c.requires (omega (arith, c.rank.ensures)) refl (mark_spelled k.LeftRound (codes "(") refl) refl (mark_spelled k.RightRound (codes ")") refl) f)) c.token-2.ensures

pub expression_root-returns-in_default-two : goal.expression_root-returns-in_default-two
expression_root-returns-in_default-two t c = adds_nothing _ (PrintsRoot expressions c.args.tree.now) (loose_bad expressions c.args.tree.now k.Plus (ap (λ o. Some o) (sym c.in-Add.is)) (λ a b e. c.in_default-two.ensures a b (c.as_slice.ensures ∙ e)))

pub expression_root-returns-in_default-two-2 : goal.expression_root-returns-in_default-two-2
expression_root-returns-in_default-two-2 t c = adds_nothing _ (PrintsRoot expressions c.args.tree.now) (loose_bad expressions c.args.tree.now k.Minus (ap (λ o. Some o) (sym c.in-Sub.is)) (λ a b e. c.in_default-two-2.ensures a b (c.as_slice-in-Sub.ensures ∙ e)))

pub expression_root-returns-in_default-two-3 : goal.expression_root-returns-in_default-two-3
expression_root-returns-in_default-two-3 t c = adds_nothing _ (PrintsRoot expressions c.args.tree.now) (firm_bad expressions c.args.tree.now k.Star (ap (λ o. Some o) (sym c.in-Mul.is)) (λ a b e. c.in_default-two-3.ensures a b (c.as_slice-in-Mul.ensures ∙ e)))

pub expression_root-returns-in_ok-token-in-Add : goal.expression_root-returns-in_ok-token-in-Add
expression_root-returns-in_ok-token-in-Add t c =
    on_ok _ _ _ (λ g. adds_infix _ _ _ _ (codes "+" ++ 32 ∷ []) _ _ (PrintsRoot expressions c.args.tree.now) c.in_ok-expression-in-Add.ensures c.in_ok-token-in-Add.ensures g
    (λ y z p q. loose_prints expressions c.args.tree.now _ _ k.Plus (codes "+") y z (sym c.as_slice.ensures ∙ c.in-Some.ensures) (mark_spelled k.Plus (codes "+") refl) (ap (λ o. Some o) (sym c.in-Add.is)) p q)) c.expression-in-Add.ensures

pub expression_root-returns-in_ok-token-in-Sub : goal.expression_root-returns-in_ok-token-in-Sub
expression_root-returns-in_ok-token-in-Sub t c =
    on_ok _ _ _ (λ g. adds_infix _ _ _ _ (codes "-" ++ 32 ∷ []) _ _ (PrintsRoot expressions c.args.tree.now) c.in_ok-expression-in-Sub.ensures c.in_ok-token-in-Sub.ensures g
    (λ y z p q. loose_prints expressions c.args.tree.now _ _ k.Minus (codes "-") y z (sym c.as_slice-in-Sub.ensures ∙ c.in-Some-two.ensures) (mark_spelled k.Minus (codes "-") refl) (ap (λ o. Some o) (sym c.in-Sub.is)) p q)) c.expression-in-Sub-2.ensures

pub expression_root-returns-in_ok-token-in-Mul : goal.expression_root-returns-in_ok-token-in-Mul
expression_root-returns-in_ok-token-in-Mul t c =
    on_ok _ _ _ (λ g. adds_infix _ _ _ _ (codes "*" ++ 32 ∷ []) _ _ (PrintsRoot expressions c.args.tree.now) c.in_ok-expression-in-Mul.ensures c.in_ok-token-in-Mul.ensures g
    (λ y z p q. firm_prints expressions c.args.tree.now _ _ k.Star (codes "*") y z (sym c.as_slice-in-Mul.ensures ∙ c.in-Some-two-2.ensures) (mark_spelled k.Star (codes "*") refl) (ap (λ o. Some o) (sym c.in-Mul.is)) p q)) c.expression-in-Mul-2.ensures

pub expression_root-returns-in_default-one : goal.expression_root-returns-in_default-one
expression_root-returns-in_default-one t c = adds_nothing _ (PrintsRoot expressions c.args.tree.now) (sign_bad expressions c.args.tree.now c.in-Minus.is (λ a e. c.in_default-one.ensures a (c.as_slice-in-Minus.ensures ∙ e)))

pub expression_root-returns-in_ok-token-in-Minus : goal.expression_root-returns-in_ok-token-in-Minus
expression_root-returns-in_ok-token-in-Minus t c =
    on_ok _ _ _ (λ g. adds_behind _ _ _ (codes "-" ++ 32 ∷ []) _ (PrintsRoot expressions c.args.tree.now) c.in_ok-token-in-Minus.ensures g
    (λ y p. sign_prints expressions c.args.tree.now _ k.Minus (codes "-") y (sym c.as_slice-in-Minus.ensures ∙ c.in-Some-one.ensures) (mark_spelled k.Minus (codes "-") refl) refl c.in-Minus.is p)) c.expression-in-Minus.ensures

pub expression_root-returns-in_default : goal.expression_root-returns-in_default
expression_root-returns-in_default t c = on_ok _ _ _ (adds_map _ _ _ (PrintsRoot expressions c.args.tree.now) (λ x f. operand_prints c.args.tree.now x c.in_default.not-Minus c.in_default.not-Add c.in_default.not-Sub c.in_default.not-Mul f)) c.operand.ensures
