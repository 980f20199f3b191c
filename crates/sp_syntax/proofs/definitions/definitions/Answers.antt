use Rattle.std.proofs.Common.{◌≡◌, ℕ, ◌∷◌, ◌++◌, [], codes, arith, ◌∙◌, Option, List}
use Rattle.sp_query.specs.declared.tree.Tree.{Tree}
use Rattle.sp_query.specs.declared.query.Ident.{Ident}
use Rattle.sp_query.specs.Phrase.{Optional}
use Rattle.sp_query.specs.Grammar as g
use Rattle.sp_syntax.specs.Printing.{Prints, SameItems}
use Rattle.sp_syntax.proofs.Adding.{on_ok, adds_nothing, adds_behind, adds_both, first_and_rest}
use Rattle.sp_syntax.proofs.Clauses as l
use Rattle.sp_syntax.proofs.definitions.definitions.Goals as goal

pub returns-in-empty : goal.returns-in-empty
returns-in-empty c = adds_nothing _ _ (λ room all e. l.prints_no_definitions room all (e ∙ l.nothing_in c.args.definitions.now (omega arith)))

pub returns-in_ok-definition-in-len1-up : goal.returns-in_ok-definition-in-len1-up
returns-in_ok-definition-in-len1-up c =
    let xs = c.args.definitions.now in
    let cut = first_and_rest xs c.first-item.result c.in-len1-up.len_at_least c.first-item.is in
    on_ok _ _ _ (λ e. adds_behind _ _ _ (codes "DEFINE" ++ 32 ∷ []) (λ z. (room : ℕ) (all : Option (List (Ident × Tree))) → g.items all ≡ xs → Prints (Optional (g.Definitions room)) SameItems all ((codes "DEFINE" ++ 32 ∷ []) ++ z)) _ c.in_ok-token-in-len1-up.ensures
    (adds_both _ _ _ _ _ (λ z. (room : ℕ) (all : Option (List (Ident × Tree))) → g.items all ≡ xs → Prints (Optional (g.Definitions room)) SameItems all ((codes "DEFINE" ++ 32 ∷ []) ++ z)) c.in_ok-definition-in-len1-up.ensures e
    (λ x y p q room all is. l.prints_definitions room _ _ x y (p room) (q room) all (is ∙ cut)))
    (λ y p. p)) c.more_definitions.ensures
