use Rattle.std.proofs.Common.{◌∷◌, ◌++◌, [], codes, subst, sym}
use Rattle.sp_query.specs.declared.mark.Mark.TheVariants as m
use Rattle.sp_query.specs.Grammar as g
use Rattle.sp_query.specs.Same.{Pairwise, SameIdent, SameElement}
use Rattle.sp_syntax.specs.Printing.{Prints, Each}
use Rattle.sp_syntax.proofs.Adding.{on_ok, adds_map, adds_behind, adds_before, adds_between}
use Rattle.sp_syntax.proofs.Lists.{prints_two_or_more}
use Rattle.sp_syntax.proofs.Clauses as l
use Rattle.sp_syntax.proofs.pattern.element.Goals as goal

pub returns-in-One : goal.returns-in-One
returns-in-One c = on_ok _ _ _ (adds_map _ _ _ (Prints g.Element SameElement c.args.element.now) (λ x p. subst (λ z. Prints g.Element SameElement z x) (sym c.in-One.is) (l.prints_single _ x p))) c.name.ensures

pub returns-in_ok-name-in-Plus : goal.returns-in_ok-name-in-Plus
returns-in_ok-name-in-Plus c = on_ok _ _ _ (λ e. adds_before _ _ _ (codes "+" ++ 32 ∷ []) _ (Prints g.Element SameElement c.args.element.now) c.in_ok-name-in-Plus.ensures e
    (λ y p. subst (λ z. Prints g.Element SameElement z (y ++ (codes "+" ++ 32 ∷ []))) (sym c.in-Plus.is) (l.prints_plus _ _ y p))) c.token.ensures

pub returns-in_ok-names-in-Set : goal.returns-in_ok-names-in-Set
returns-in_ok-names-in-Set c =
    let names = c.in-Set.idents in
    let Inner = g.Between m.LeftRound g.Names m.RightRound in
    on_ok _ _ _ (λ e. adds_behind _ _ _ (codes "SET" ++ 32 ∷ []) (λ z. Prints g.Element SameElement c.args.element.now ((codes "SET" ++ 32 ∷ []) ++ z)) (Prints g.Element SameElement c.args.element.now) c.in_ok-token-in-Set.ensures
    (adds_between _ _ _ _ (codes "(" ++ 32 ∷ []) (codes ")" ++ 32 ∷ []) _ (λ z. Prints g.Element SameElement c.args.element.now ((codes "SET" ++ 32 ∷ []) ++ z)) c.in_ok-token-in-Set-2.ensures c.in_ok-names-in-Set.ensures e
    (λ y p. subst (λ z. Prints g.Element SameElement z ((codes "SET" ++ 32 ∷ []) ++ ((codes "(" ++ 32 ∷ []) ++ (y ++ (codes ")" ++ 32 ∷ []))))) (sym c.in-Set.is)
    (l.prints_set names y (prints_two_or_more g.Name SameIdent names y (subst (λ z. Prints (Each g.Name) (Pairwise SameIdent) z y) c.as_slice.ensures p)))))
    (λ y p. p)) c.token-in-Set-3.ensures

pub returns-in_ok-token-in-Never : goal.returns-in_ok-token-in-Never
returns-in_ok-token-in-Never c = on_ok _ _ _ (λ e. adds_behind _ _ _ (codes "!" ++ 32 ∷ []) (Prints g.Name SameIdent c.in-Never.ident) (Prints g.Element SameElement c.args.element.now) c.in_ok-token-in-Never.ensures e
    (λ y p. subst (λ z. Prints g.Element SameElement z ((codes "!" ++ 32 ∷ []) ++ y)) (sym c.in-Never.is) (l.prints_never _ _ y p))) c.name-in-Never.ensures
