-- The left operands of a tree, and the parts of each.
use Rattle.std.proofs.Common.{◌≡◌, ◌≤◌, ◌<◌, List, [], ◌∷◌, ◌++◌, length, get_or, Bor, refl, sym, ap, ◌∙◌, subst, arith}
use Rattle.sp_query.specs.declared.tree.Tree.{Tree, out-Tree, size-Tree}
use Rattle.sp_query.specs.declared.tree.Tree.TheViews.{size_is-Tree}
use Rattle.sp_compile.specs.Spines.{Spine, ends, goes}

-- of two parts the first, and another
two_of : (xs : List Tree) (x : Tree) → 2 ≤ length xs → length xs < 3 → x ≡ get_or xs 0 x → (y : Tree) × (xs ≡ x ∷ y ∷ [])
two_of [] x l u e = absurd (omega arith)
two_of (z ∷ []) x l u e = absurd (omega arith)
two_of (z ∷ w ∷ []) x l u e = (w, ap (λ k. k ∷ w ∷ []) (sym e))
two_of (z ∷ w ∷ v ∷ xs) x l u e = absurd (omega arith)

pub further : (root : Tree) (nodes all : List (Bor Tree)) (node : Bor Tree) (left : Tree) (parts : List Tree) → Spine root nodes node.now → (out-Tree node.now).parts ≡ parts
    → 2 ≤ length parts → length parts < 3 → left ≡ get_or parts 0 left → all ≡ nodes ++ node ∷ [] → Spine root all left
further root nodes all node left parts s is l u e push = let w = two_of parts left l u e in goes nodes all node left w.0 s (is ∙ w.1) push

-- of two parts, the other
pub two_with : (xs : List Tree) (x z y : Tree) → xs ≡ x ∷ z ∷ [] → y ≡ get_or xs 1 y → xs ≡ x ∷ y ∷ []
two_with [] x z y e d = absurd cc
two_with (v ∷ []) x z y e d = absurd cc
two_with (v ∷ w ∷ us) x z y e d = let same : y ≡ z = d ∙ ap (λ (k : List Tree). get_or k 1 y) e in e ∙ ap (λ (k : Tree). x ∷ k ∷ []) (sym same)

-- two parts, by their places
pub two_parts : (xs : List Tree) (x y : Tree) → 2 ≤ length xs → length xs < 3 → x ≡ get_or xs 0 x → y ≡ get_or xs 1 y → xs ≡ x ∷ y ∷ []
two_parts xs x y l u e d = let w = two_of xs x l u e in two_with xs x w.0 y w.1 d

-- ---- the same list, cut before its last item

snoc_same : (xs ys : List (Bor Tree)) (x y : Bor Tree) → xs ++ x ∷ [] ≡ ys ++ y ∷ [] → (xs ≡ ys) × (x ≡ y)
snoc_same [] [] x y e = (refl, cc)
snoc_same [] (b ∷ []) x y e = absurd cc
snoc_same [] (b ∷ d ∷ ys) x y e = absurd cc
snoc_same (a ∷ []) [] x y e = absurd cc
snoc_same (a ∷ d ∷ xs) [] x y e = absurd cc
snoc_same (a ∷ xs) (b ∷ ys) x y e =
    let tails : xs ++ x ∷ [] ≡ ys ++ y ∷ [] = cc in
    let w = snoc_same xs ys x y tails in
    (cc, w.1)

never_none : (xs : List (Bor Tree)) (x : Bor Tree) → [] ≡ xs ++ x ∷ [] → ⊥
never_none [] x e = cc
never_none (y ∷ xs) x e = cc

-- ---- on the way back

-- the last of the nodes is the next above
pub under : (root : Tree) (nodes all : List (Bor Tree)) (node : Bor Tree) (here : Tree) → Spine root all here → all ≡ nodes ++ node ∷ [] → (right : Tree) × (Spine root nodes node.now × ((out-Tree node.now).parts ≡ here ∷ right ∷ []))
under root nodes _ node here (ends _ e) is = absurd (never_none nodes node is)
under root nodes all node here (goes front _ last _ right s parts e) is =
    let w = snoc_same front nodes last node (sym e ∙ is) in
    (right, (subst (λ (k : List (Bor Tree)). Spine root k node.now) w.0 (subst (λ (k : Bor Tree). Spine root front k.now) w.1 s), subst (λ (k : Bor Tree). (out-Tree k.now).parts ≡ here ∷ right ∷ []) w.1 parts))

-- with no node left, it is the root
pub topped : (root : Tree) (all : List (Bor Tree)) (here : Tree) → Spine root all here → length all ≡ 0 → here ≡ root
topped root _ here (ends _ e) none = e
topped root [] here (goes front _ last _ right s parts e) none = absurd (never_none front last e)
topped root (x ∷ xs) here (goes front _ last _ right s parts e) none = absurd (omega arith)

-- ---- sizes

pub first_falls : (t x : Tree) (xs : List Tree) → (out-Tree t).parts ≡ x ∷ xs → size-Tree x < size-Tree t
first_falls t x xs e = rw (size_is-Tree t, e) (omega arith)

pub second_falls : (t y x : Tree) (xs : List Tree) → (out-Tree t).parts ≡ y ∷ x ∷ xs → size-Tree x < size-Tree t
second_falls t y x xs e = rw (size_is-Tree t, e) (omega arith)

pub no_larger : (root : Tree) (nodes : List (Bor Tree)) (here : Tree) → Spine root nodes here → size-Tree here ≤ size-Tree root
no_larger root _ here (ends _ e) = let same = ap size-Tree e in omega arith
no_larger root all here (goes front _ last _ right s parts e) = let falls = first_falls last.now here (right ∷ []) parts in let above = no_larger root front last.now s in omega arith
