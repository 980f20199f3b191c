use Rattle.std.proofs.Common.{◌∷◌, ◌++◌, [], subst, sym}
use Rattle.std.specs.Fmt.{decimal}
use Rattle.sp_query.specs.Grammar as g
use Rattle.sp_syntax.specs.Printing.{Prints, Equal}
use Rattle.sp_syntax.proofs.Adding.{on_ok, adds_texts}
use Rattle.sp_syntax.proofs.Clauses as l
use Rattle.sp_syntax.proofs.window.amount.Goals as goal

pub returns : goal.returns
returns c =
    let number = c.args.number in
    let unit = c.args.unit in
    on_ok _ _ _ (λ e. adds_texts _ _ _ (decimal number ++ 32 ∷ []) (c.spelling.result.now ++ 32 ∷ []) (Prints g.Amount Equal (number, unit)) c.in_ok-whole.ensures e
    (subst (λ z. Prints g.Amount Equal (number, unit) ((decimal number ++ 32 ∷ []) ++ (z ++ 32 ∷ []))) (sym c.spelling.ensures) (l.prints_amount number unit))) c.token.ensures
