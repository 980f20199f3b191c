use Rattle.std.proofs.Common.{◌≡◌, ◌∷◌, ◌++◌, [], codes, subst, sym, ap, ◌∙◌, refl}
use Rattle.sp_query.specs.declared.tree.Node.TheVariants as n
use Rattle.sp_query.specs.Grammar.{Operand}
use Rattle.sp_query.specs.Same.{SameTree}
use Rattle.sp_syntax.specs.Printing.{Prints, root}
use Rattle.sp_syntax.proofs.Adding.{on_ok, adds_text, adds_before, adds_behind, adds_nothing}
use Rattle.sp_syntax.proofs.Operands.{prints_number, prints_decimal, prints_literal_text, prints_own, prints_earlier, operand_leaf, no_leaf}
use Rattle.sp_syntax.proofs.expression.operand.Goals as goal

pub returns-in-Whole : goal.returns-in-Whole
returns-in-Whole c = on_ok _ _ _ (λ e. adds_text _ _ _ (Prints Operand SameTree c.args.tree.now) e (prints_number c.args.tree.now _ c.in-Whole.is)) c.whole.ensures

pub returns-in_ok-push_str-in-Decimal : goal.returns-in_ok-push_str-in-Decimal
returns-in_ok-push_str-in-Decimal c = adds_before _ _ _ (codes " ") _ (Prints Operand SameTree c.args.tree.now) c.in_ok-scaled-in-Decimal.ensures c.in_ok-push_str-in-Decimal.ensures.bytes (λ y p. prints_decimal c.args.tree.now _ _ y c.in-Decimal.is p)

pub returns-in-Literal : goal.returns-in-Literal
returns-in-Literal c = on_ok _ _ _ (λ e. adds_text _ _ _ (Prints Operand SameTree c.args.tree.now) e (prints_literal_text c.args.tree.now c.as_str.result.now (c.in-Literal.is ∙ ap n.Literal (sym c.as_str.ensures)))) c.literal.ensures

pub returns-in-Own : goal.returns-in-Own
returns-in-Own c = on_ok _ _ _ (λ e. adds_text _ _ _ (Prints Operand SameTree c.args.tree.now) e (prints_own c.args.tree.now c.as_str-in-Own.result.now (c.in-Own.is ∙ ap n.Own (sym c.as_str-in-Own.ensures)))) c.token.ensures

pub returns-in_ok-token-in-Earlier-2 : goal.returns-in_ok-token-in-Earlier-2
returns-in_ok-token-in-Earlier-2 c =
    let x = c.as_str-in-Earlier.result.now in
    let y = c.as_str-in-Earlier-2.result.now in
    let is = c.in-Earlier.is ∙ ap (λ z. n.Earlier z c.in-Earlier.column) (sym c.as_str-in-Earlier.ensures) ∙ ap (λ z. n.Earlier x z) (sym c.as_str-in-Earlier-2.ensures) in
    on_ok _ _ _ (λ e. adds_behind _ _ _ (x ++ 32 ∷ []) (λ z. z ≡ (codes "." ++ 32 ∷ []) ++ (y ++ 32 ∷ [])) (Prints Operand SameTree c.args.tree.now) c.in_ok-token-in-Earlier.ensures
    (adds_behind _ _ _ (codes "." ++ 32 ∷ []) (λ z. z ≡ y ++ 32 ∷ []) (λ z. z ≡ (codes "." ++ 32 ∷ []) ++ (y ++ 32 ∷ [])) c.in_ok-token-in-Earlier-2.ensures (adds_text _ _ (y ++ 32 ∷ []) (λ z. z ≡ y ++ 32 ∷ []) e refl) (λ z h. ap (λ l. (codes "." ++ 32 ∷ []) ++ l) h))
    (λ z h. subst (λ l. Prints Operand SameTree c.args.tree.now ((x ++ 32 ∷ []) ++ l)) (sym h) (prints_earlier c.args.tree.now x y is))) c.token-in-Earlier-3.ensures

pub returns-in_default : goal.returns-in_default
returns-in_default c = adds_nothing _ (Prints Operand SameTree c.args.tree.now) (λ has. absurd (no_leaf (root c.args.tree.now) c.in_default.not-Whole c.in_default.not-Decimal c.in_default.not-Literal c.in_default.not-Own c.in_default.not-Earlier (operand_leaf has.tokens c.args.tree.now has.phrase)))
