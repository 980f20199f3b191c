use Rattle.std.proofs.Common.{ℕ, ◌∷◌, ◌++◌, [], codes, subst, sym}
use Rattle.sp_query.specs.Grammar as g
use Rattle.sp_query.specs.Same.{SameOpening}
use Rattle.sp_syntax.specs.Printing.{Prints}
use Rattle.sp_syntax.proofs.Adding.{on_ok, adds_behind}
use Rattle.sp_syntax.proofs.Clauses as l
use Rattle.sp_syntax.proofs.window.opening.Goals as goal

pub returns-in_ok-token-in-Every : goal.returns-in_ok-token-in-Every
returns-in_ok-token-in-Every c = on_ok _ _ _ (λ e. adds_behind _ _ _ (codes "FROM" ++ 32 ∷ []) (λ z. (room : ℕ) → Prints (g.Opening room) SameOpening c.args.opening.now ((codes "FROM" ++ 32 ∷ []) ++ z)) (λ z. (room : ℕ) → Prints (g.Opening room) SameOpening c.args.opening.now z) c.in_ok-token.ensures
    (adds_behind _ _ _ (codes "EVERY" ++ 32 ∷ []) _ (λ z. (room : ℕ) → Prints (g.Opening room) SameOpening c.args.opening.now ((codes "FROM" ++ 32 ∷ []) ++ z)) c.in_ok-token-in-Every.ensures e
    (λ y p room. subst (λ z. Prints (g.Opening room) SameOpening z ((codes "FROM" ++ 32 ∷ []) ++ ((codes "EVERY" ++ 32 ∷ []) ++ y))) (sym c.in-Every.is) (l.prints_every room _ _ _ y p)))
    (λ y p. p)) c.amount.ensures

pub returns-in_ok-token-in-When : goal.returns-in_ok-token-in-When
returns-in_ok-token-in-When c = on_ok _ _ _ (λ e. adds_behind _ _ _ (codes "FROM" ++ 32 ∷ []) (λ z. (room : ℕ) → Prints (g.Opening room) SameOpening c.args.opening.now ((codes "FROM" ++ 32 ∷ []) ++ z)) (λ z. (room : ℕ) → Prints (g.Opening room) SameOpening c.args.opening.now z) c.in_ok-token.ensures
    (adds_behind _ _ _ (codes "WHEN" ++ 32 ∷ []) _ (λ z. (room : ℕ) → Prints (g.Opening room) SameOpening c.args.opening.now ((codes "FROM" ++ 32 ∷ []) ++ z)) c.in_ok-token-in-When.ensures e
    (λ y p room. subst (λ z. Prints (g.Opening room) SameOpening z ((codes "FROM" ++ 32 ∷ []) ++ ((codes "WHEN" ++ 32 ∷ []) ++ y))) (sym c.in-When.is) (l.prints_when room _ y (p room))))
    (λ y p. p)) c.predicate.ensures
