-- Trees of one form.
use Rattle.std.proofs.Common.{◌≡◌, Bool, true, List, [], ◌∷◌, ◌++◌, sym, ◌∙◌, ap, subst}
use Rattle.sp_query.specs.declared.tree.Tree.{Tree, Tree-F, out-Tree, roll-Tree, out-roll-Tree, roll-out-Tree}
use Rattle.sp_query.specs.Trees.{tree_at}
use Rattle.sp_query.specs.Same.{Pairwise, SameTrees, none, some, SameTree}
use Rattle.sp_query.proofs.Pairs.{Told}

pub same_append : (us vs : List Tree) → SameTrees us vs → (xs ys : List Tree) → SameTrees xs ys → SameTrees (us ++ xs) (vs ++ ys)
same_append us vs none xs ys q = q
same_append us vs (some node span other parts those rest more p r) xs ys q = some node span other parts those (rest ++ xs) (more ++ ys) p (same_append rest more r xs ys q)

pub trees_pairs : (xs ys : List Tree) → SameTrees xs ys → Pairwise SameTree xs ys
trees_pairs xs ys none = tt
trees_pairs xs ys (some node span other parts those rest more p q) = (some node span other parts those [] [] p none, trees_pairs rest more q)

pub pairs_trees : (xs ys : List Tree) → Pairwise SameTree xs ys → SameTrees xs ys
pairs_trees [] [] p = none
pairs_trees [] (y ∷ ys) p = absurd p
pairs_trees (x ∷ xs) [] p = absurd p
pairs_trees (x ∷ xs) (y ∷ ys) p = same_append (x ∷ []) (y ∷ []) p.0 xs ys (pairs_trees xs ys p.1)

-- what one form says of the first trees
abbrev FirstSame : List Tree → List Tree → Type 0
FirstSame [] [] = Unit {0}
FirstSame (x ∷ xs) (y ∷ ys) = ((out-Tree x).node ≡ (out-Tree y).node) × SameTrees (out-Tree x).parts (out-Tree y).parts
FirstSame _ _ = ⊥

first_same : (xs ys : List Tree) → SameTrees xs ys → FirstSame xs ys
first_same xs ys none = tt
first_same xs ys (some node span other parts those rest more p q) =
    let e : out-Tree (tree_at node parts span) ≡ record { node = node; parts = parts; span = span } = out-roll-Tree (record { node = node; parts = parts; span = span }) in
    let d : out-Tree (tree_at node those other) ≡ record { node = node; parts = those; span = other } = out-roll-Tree (record { node = node; parts = those; span = other }) in (
      ap (λ (r : Tree-F Tree). r.node) e ∙ sym (ap (λ (r : Tree-F Tree). r.node) d),
      subst (λ (r : Tree-F Tree). SameTrees r.parts (out-Tree (tree_at node those other)).parts) (sym e) (subst (λ (r : Tree-F Tree). SameTrees parts r.parts) (sym d) p),
    )

-- Trees are of one form where their roots are one and their parts are of one form.
pub same_out : (x y : Tree) → SameTree x y → ((out-Tree x).node ≡ (out-Tree y).node) × SameTrees (out-Tree x).parts (out-Tree y).parts
same_out x y s = first_same (x ∷ []) (y ∷ []) s

pub same_made : (x y : Tree) → (out-Tree x).node ≡ (out-Tree y).node → SameTrees (out-Tree x).parts (out-Tree y).parts → SameTree x y
same_made x y n p =
    let a = out-Tree x in
    let b = out-Tree y in
    let q : SameTree (tree_at b.node a.parts a.span) (tree_at b.node b.parts b.span) = some b.node a.span b.span a.parts b.parts [] [] p none in
    let r : SameTree (roll-Tree a) (roll-Tree b) = subst (λ m. SameTree (tree_at m a.parts a.span) (tree_at b.node b.parts b.span)) (sym n) q in
    subst (λ z. SameTree z y) (roll-out-Tree x) (subst (λ z. SameTree (roll-Tree a) z) (roll-out-Tree y) r)

-- ---- as the code asks

pub tree_told : (x y : Tree) (a b : Bool) → a ≡ true → Told a ((out-Tree x).node ≡ (out-Tree y).node) → Told b (SameTrees (out-Tree x).parts (out-Tree y).parts) → Told b (SameTree x y)
tree_told x y a b e n p = (λ h. same_made x y (n.0 e) (p.0 h), λ s. p.1 (same_out x y s).1)

pub trees_told : (b : Bool) (xs ys : List Tree) → Told b (Pairwise SameTree xs ys) → Told b (SameTrees xs ys)
trees_told b xs ys p = (λ h. pairs_trees xs ys (p.0 h), λ s. p.1 (trees_pairs xs ys s))
