use Rattle.std.proofs.Common.{◌∷◌, ◌++◌, [], codes, subst, sym}
use Rattle.sp_query.specs.Grammar as g
use Rattle.sp_query.specs.Same.{Pairwise, SameIdent, SameConsume}
use Rattle.sp_syntax.specs.Printing.{Prints}
use Rattle.sp_syntax.proofs.Adding.{on_ok, adds_behind, adds_texts, adds_between}
use Rattle.sp_syntax.proofs.Clauses as l
use Rattle.sp_syntax.proofs.consume.consume.Goals as goal

pub returns-in-All : goal.returns-in-All
returns-in-All c = on_ok _ _ _ (λ e. adds_texts _ _ _ (codes "CONSUME" ++ 32 ∷ []) (codes "ALL" ++ 32 ∷ []) (Prints g.Consume SameConsume c.args.consume.now) c.in_ok-token.ensures e (subst (λ z. Prints g.Consume SameConsume z ((codes "CONSUME" ++ 32 ∷ []) ++ (codes "ALL" ++ 32 ∷ []))) (sym c.in-All.is) l.prints_all)) c.token-in-All.ensures

pub returns-in-None : goal.returns-in-None
returns-in-None c = on_ok _ _ _ (λ e. adds_texts _ _ _ (codes "CONSUME" ++ 32 ∷ []) (codes "NONE" ++ 32 ∷ []) (Prints g.Consume SameConsume c.args.consume.now) c.in_ok-token.ensures e (subst (λ z. Prints g.Consume SameConsume z ((codes "CONSUME" ++ 32 ∷ []) ++ (codes "NONE" ++ 32 ∷ []))) (sym c.in-None.is) l.prints_nothing)) c.token-in-None.ensures

pub returns-in_ok-listed_names-in-Names : goal.returns-in_ok-listed_names-in-Names
returns-in_ok-listed_names-in-Names c =
    let names = c.in-Names.idents in
    on_ok _ _ _ (λ e. adds_behind _ _ _ (codes "CONSUME" ++ 32 ∷ []) (λ z. Prints g.Consume SameConsume c.args.consume.now ((codes "CONSUME" ++ 32 ∷ []) ++ z)) (Prints g.Consume SameConsume c.args.consume.now) c.in_ok-token.ensures
    (adds_between _ _ _ _ (codes "(" ++ 32 ∷ []) (codes ")" ++ 32 ∷ []) _ (λ z. Prints g.Consume SameConsume c.args.consume.now ((codes "CONSUME" ++ 32 ∷ []) ++ z)) c.in_ok-token-in-Names.ensures c.in_ok-listed_names-in-Names.ensures e
    (λ y p. subst (λ z. Prints g.Consume SameConsume z ((codes "CONSUME" ++ 32 ∷ []) ++ ((codes "(" ++ 32 ∷ []) ++ (y ++ (codes ")" ++ 32 ∷ []))))) (sym c.in-Names.is)
    (l.prints_names names y (subst (λ z. Prints (g.ListOf g.Name) (Pairwise SameIdent) z y) c.as_slice.ensures p))))
    (λ y p. p)) c.token-in-Names-2.ensures
