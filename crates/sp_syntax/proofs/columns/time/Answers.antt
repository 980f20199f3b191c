use Rattle.std.proofs.Common.{◌∷◌, ◌++◌, [], codes, subst, sym, refl}
use Rattle.sp_lex.specs.declared.token.Word.TheVariants as w
use Rattle.sp_query.specs.declared.mark.Mark.TheVariants as m
use Rattle.sp_query.specs.Phrase.{Optional}
use Rattle.sp_query.specs.Grammar as g
use Rattle.sp_query.specs.Same.{SameIdent, SameTime}
use Rattle.sp_syntax.specs.Printing.{Prints}
use Rattle.sp_syntax.proofs.Adding.{on_ok, adds_nothing, adds_behind}
use Rattle.sp_syntax.proofs.Speaking.{prints_some, prints_none}
use Rattle.sp_syntax.proofs.Clauses as l
use Rattle.sp_syntax.proofs.columns.time.Goals as goal

pub returns-in_ok-token-in-Some : goal.returns-in_ok-token-in-Some
returns-in_ok-token-in-Some c = on_ok _ _ _ (λ e. adds_behind _ _ _ (codes "TIME" ++ 32 ∷ []) _ (Prints (Optional g.Timed) SameTime c.args.time.now) c.in_ok-token-in-Some.ensures e
    (λ y p. subst (λ z. Prints (Optional g.Timed) SameTime z ((codes "TIME" ++ 32 ∷ []) ++ y)) (sym c.in-Some.is) (prints_some g.Timed SameIdent SameTime _ ((codes "TIME" ++ 32 ∷ []) ++ y) (λ b r. r) (l.prints_behind g.Name SameIdent _ y w.Time m.Time refl p)))) c.name.ensures

pub returns-in-None : goal.returns-in-None
returns-in-None c = adds_nothing _ _ (subst (λ z. Prints (Optional g.Timed) SameTime z []) (sym c.in-None.is) (prints_none g.Timed SameTime tt))
