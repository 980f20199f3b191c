use Rattle.std.proofs.Common.{◌≡◌, ◌∷◌, ◌++◌, [], codes, subst, sym, ap, ◌∙◌, refl}
use Rattle.sp_query.specs.Grammar as g
use Rattle.sp_syntax.specs.Printing.{Prints, Equal}
use Rattle.sp_syntax.proofs.Adding.{on_ok, adds_text, adds_behind}
use Rattle.sp_syntax.proofs.Clauses as l
use Rattle.sp_syntax.proofs.consume.policy.Goals as goal

pub returns : goal.returns
returns c = on_ok _ _ _ (λ e. adds_behind _ _ _ (codes "SELECT" ++ 32 ∷ []) (λ z. z ≡ c.spelling.result.now ++ 32 ∷ []) (Prints g.Policy Equal c.args.select) c.in_ok-token.ensures (adds_text _ _ (c.spelling.result.now ++ 32 ∷ []) (λ z. z ≡ c.spelling.result.now ++ 32 ∷ []) e refl)
    (λ z h. subst (λ y. Prints g.Policy Equal c.args.select ((codes "SELECT" ++ 32 ∷ []) ++ y)) (sym (h ∙ ap (λ y. y ++ 32 ∷ []) c.spelling.ensures)) (l.prints_policy c.args.select))) c.token-2.ensures
