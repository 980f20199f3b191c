-- Texts are gathered tree by tree.
use Rattle.std.proofs.Common.{◌≡◌, ℕ, ◌+◌, ◌<◌, List, [], ◌∷◌, ◌++◌, length, get_or, take, map, fold, refl, sym, ◌∙◌, ap, subst, append_assoc, append-nil}
use Rattle.std.proofs.lemmas.List.{take_more, map_more}
use Rattle.sp_plan.specs.Texts.{with_text}
use Rattle.sp_query.specs.declared.tree.Tree.{Tree, out-Tree}
use Rattle.sp_query.specs.declared.tree.Node.{Node}
use Rattle.sp_query.specs.declared.tree.Node.TheVariants as n
use Rattle.sp_compile.specs.Stands.{literal_of, Literals, none, some}
use Rattle.sp_compile.specs.Gathers.{Gathers}

-- texts of two lists, one after the other
fold_append : (before some more : List (List ℕ)) → fold with_text before (some ++ more) ≡ fold with_text (fold with_text before some) more
fold_append before [] more = refl
fold_append before (text ∷ texts) more = fold_append (with_text before text) texts more

-- the texts of trees, and of trees behind them
append_literals : (trees more : List Tree) (texts others : List (List ℕ)) → Literals trees texts → Literals more others → Literals (trees ++ more) (texts ++ others)
append_literals [] more _ others none d = d
append_literals (_ ∷ _) more _ others (some t rest own these texts d e is) i =
    some t (rest ++ more) own (these ++ others) _ d (append_literals rest more these others e i)
    (ap (λ l. l ++ others) is ∙ append_assoc (literal_of (out-Tree t).node) (own ++ these) others ∙ ap (λ l. literal_of (out-Tree t).node ++ l) (append_assoc own these others))

-- no tree has texts
pub gathers_none : (texts : List (List ℕ)) → Gathers [] texts texts
gathers_none texts = record { literals = []; of_trees = none; gathered = refl }

-- some trees, and then others
pub gathers_append : (trees more : List Tree) (before between after : List (List ℕ)) → Gathers trees before between → Gathers more between after → Gathers (trees ++ more) before after
gathers_append trees more before between after d e = record {
  literals = d.literals ++ e.literals;
  of_trees = append_literals trees more d.literals e.literals d.of_trees e.of_trees;
  gathered = e.gathered ∙ ap (λ l. fold with_text l e.literals) d.gathered ∙ sym (fold_append before d.literals e.literals);
}

-- a root, and then its parts
pub gathers_tree : (t : Tree) (before after : List (List ℕ)) → Gathers (out-Tree t).parts (fold with_text before (literal_of (out-Tree t).node)) after → Gathers (t ∷ []) before after
gathers_tree t before after d = record {
  literals = literal_of (out-Tree t).node ++ (d.literals ++ []);
  of_trees = some t [] d.literals [] _ d.of_trees none refl;
  gathered = d.gathered ∙ sym (fold_append before (literal_of (out-Tree t).node) d.literals) ∙ ap (λ l. fold with_text before (literal_of (out-Tree t).node ++ l)) (sym (append-nil d.literals));
}

-- an operator, behind the texts of its left part
pub gathers_node : (t here right : Tree) (before between after : List (List ℕ)) → (out-Tree t).parts ≡ here ∷ right ∷ [] → literal_of (out-Tree t).node ≡ [] → Gathers (here ∷ []) before between → Gathers (right ∷ []) between after → Gathers (t ∷ []) before after
gathers_node t here right before between after parts plain d e =
    let both : Gathers (here ∷ right ∷ []) before after = gathers_append (here ∷ []) (right ∷ []) before between after d e in
    gathers_tree t before after (subst (λ l. Gathers (out-Tree t).parts (fold with_text before l) after) (sym plain) (subst (λ l. Gathers l before after) (sym parts) both))

-- one tree more, as at a step of a loop
pub gathers_more : (trees : List Tree) (at : ℕ) (tree : Tree) (before between after : List (List ℕ)) → at < length trees → tree ≡ get_or trees at tree → Gathers (take at trees) before between → Gathers (tree ∷ []) between after → Gathers (take (at + 1) trees) before after
gathers_more trees at tree before between after within is d e =
    let cut : take (at + 1) trees ≡ take at trees ++ tree ∷ [] = take_more trees at tree within ∙ ap (λ t. take at trees ++ t ∷ []) (sym is) in
    subst (λ l. Gathers l before after) (sym cut) (gathers_append (take at trees) (tree ∷ []) before between after d e)

-- the same of what the trees stand in
pub gathers_mapped : {X : Type 0} (tree_of : X → Tree) (items : List X) (at : ℕ) (item : X) (before between after : List (List ℕ)) → at < length items → item ≡ get_or items at item → Gathers (map tree_of (take at items)) before between → Gathers (tree_of item ∷ []) between after → Gathers (map tree_of (take (at + 1) items)) before after
gathers_mapped tree_of items at item before between after within is d e =
    let cut : map tree_of (take (at + 1) items) ≡ map tree_of (take at items) ++ tree_of item ∷ [] = map_more tree_of items at item within ∙ ap (λ t. map tree_of (take at items) ++ tree_of t ∷ []) (sym is) in
    subst (λ l. Gathers l before after) (sym cut) (gathers_append (map tree_of (take at items)) (tree_of item ∷ []) before between after d e)

-- a root that is no text has none
pub literal_none : (node : Node) → ((text : List ℕ) → node ≡ n.Literal text → ⊥) → literal_of node ≡ []
literal_none (n.Literal text) h = absurd (h text refl)
literal_none _ h = refl
