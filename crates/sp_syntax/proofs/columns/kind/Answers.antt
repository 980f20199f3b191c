use Rattle.std.proofs.Common.{rules, ◌≡◌, ◌∷◌, ◌++◌, [], subst, sym}
use Rattle.std.specs.Fmt.{decimal}
use Rattle.sp_lex.specs.declared.token.Word.TheVariants as w
use Rattle.sp_query.specs.Grammar as g
use Rattle.sp_syntax.specs.Printing.{Prints, Equal}
use Rattle.sp_syntax.proofs.Adding.{on_ok, adds_text, adds_texts}
use Rattle.sp_syntax.proofs.Clauses as l
use Rattle.sp_syntax.proofs.columns.kind.Goals as goal

pub returns-then-eq : goal.returns-then-eq
returns-then-eq c =
    let kind = c.args.kind in
    let digits = c.args.digits in
    let dec : kind ≡ w.Dec = search rules in
    on_ok _ _ _ (λ e. adds_texts _ _ _ (c.spelling.result.now ++ 32 ∷ []) (decimal digits ++ 32 ∷ []) (Prints g.KindOf Equal (kind, digits)) c.in_ok-token.ensures e
    (subst (λ z. Prints g.KindOf Equal (kind, digits) ((z ++ 32 ∷ []) ++ (decimal digits ++ 32 ∷ []))) (sym c.spelling.ensures) (l.prints_dec_kind kind digits dec))) c.whole.ensures

pub returns : goal.returns
returns c =
    let kind = c.args.kind in
    let digits = c.args.digits in
    let other : kind ≡ w.Dec → ⊥ = search rules in
    adds_text _ _ (c.spelling.result.now ++ 32 ∷ []) (Prints g.KindOf Equal (kind, digits)) c.in_ok-token.ensures
    (subst (λ z. Prints g.KindOf Equal (kind, digits) (z ++ 32 ∷ [])) (sym c.spelling.ensures) (l.prints_plain_kind kind digits other))
