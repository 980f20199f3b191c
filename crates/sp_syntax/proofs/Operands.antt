-- Constants and names as they are written.
use Rattle.std.proofs.Common.{◌≡◌, ◌≢◌, ℕ, ◌^◌, ◌≤◌, ◌<◌, Option, Some, None, List, [], ◌∷◌, ◌++◌, codes, refl, sym, ◌∙◌, ap, subst, arith, append-nil, append_assoc}
use Rattle.std.specs.Fmt.{decimal}
use Rattle.sp_base.specs.Limits.{number_limit}
use Rattle.sp_lex.specs.declared.token.Token.{Token}
use Rattle.sp_lex.specs.declared.token.Kernel.{Kernel}
use Rattle.sp_lex.specs.declared.token.Kernel.TheVariants as k
use Rattle.sp_lex.specs.Spelling.{doubled}
use Rattle.sp_query.specs.declared.mark.Mark.TheVariants as m
use Rattle.sp_query.specs.declared.tree.Tree.{Tree}
use Rattle.sp_query.specs.declared.tree.Node.{Node}
use Rattle.sp_query.specs.declared.tree.Node.TheVariants as n
use Rattle.sp_query.specs.Phrase.{One, Both, left, right, Optional}
use Rattle.sp_query.specs.Grammar.{kernel, tree, name, whole, constant, Constant, Dotted, named, Named, Operand}
use Rattle.sp_query.specs.Same.{SameTree, none}
use Rattle.sp_syntax.specs.Written.{IsSpelled}
use Rattle.sp_syntax.specs.Printing.{IsPlain, ArePlain, Has, Prints, Equal, IsDecimalOf, root}
use Rattle.sp_syntax.proofs.Numbers.{decimal_digits, decimal_value}
use Rattle.sp_syntax.proofs.Ranks.{root_of, same_roots}
use Rattle.sp_syntax.proofs.Speaking.{Paired, prints_one, prints_both, prints_built, prints_after, prints_left, prints_right, prints_none, prints_some}
use Rattle.sp_syntax.proofs.Spelled.{mark_spelled, name_spelled, whole_spelled, decimal_spelled, literal_spelled}

-- ---- single tokens

pub plain_one : {A : Type 0} (f : Kernel → Option A) (a : A) → Has (One (kernel f)) a → (x : Kernel) × IsPlain x × (f x ≡ Some a)
plain_one f a has = (has.phrase.token.kernel, (subst ArePlain has.phrase.alone has.plain).0, has.phrase.is)

name_back : (x : Kernel) (text : List ℕ) → name x ≡ Some text → x ≡ k.Name text
name_back (k.Name t) text e = let d : t ≡ text = cc in ap k.Name d
name_back _ text e = absurd cc

whole_back : (x : Kernel) (number : ℕ) → whole x ≡ Some number → x ≡ k.Whole number
whole_back (k.Whole n) number e = let d : n ≡ number = cc in ap k.Whole d
whole_back _ number e = absurd cc

pub plain_name : (text : List ℕ) → Has (One (kernel name)) text → IsPlain (k.Name text)
plain_name text has = let p = plain_one name text has in subst IsPlain (name_back p.0 text p.2) p.1

pub prints_name : (text : List ℕ) → Prints (One (kernel name)) Equal text (text ++ 32 ∷ [])
prints_name text has = prints_one name Equal text (k.Name text) text refl (name_spelled text (plain_name text has)) refl has

small_word : (x : ℕ) → x ≤ number_limit → x < 2 ^ 64
small_word x h = omega arith

pub number_spelled : (x : ℕ) → x ≤ number_limit → IsSpelled (k.Whole x) (decimal x)
number_spelled x h = whole_spelled (decimal x) x (decimal_digits x (small_word x h)) (decimal_value x (small_word x h)) h

pub prints_whole : (number : ℕ) → Prints (One (kernel whole)) Equal number (decimal number ++ 32 ∷ [])
prints_whole number has =
    let p = plain_one whole number has in
    prints_one whole Equal number (k.Whole number) (decimal number) refl (number_spelled number (subst IsPlain (whole_back p.0 number p.2) p.1)) refl has

-- ---- constants

back : Node → Option Kernel
back (n.Whole x) = Some (k.Whole x)
back (n.Decimal units scale) = Some (k.Decimal units scale)
back (n.Literal text) = Some (k.Literal text)
back _ = None

constant_back : (x : Kernel) (node : Node) → constant x ≡ Some node → back node ≡ Some x
unfolding back
constant_back (k.Whole x) node e = let d : n.Whole x ≡ node = cc in sym (ap back d)
constant_back (k.Decimal units scale) node e = let d : n.Decimal units scale ≡ node = cc in sym (ap back d)
constant_back (k.Literal text) node e = let d : n.Literal text ≡ node = cc in sym (ap back d)
constant_back _ node e = absurd cc

named_root : (u : List Token) (p : List ℕ × Option (List ℕ)) (x : Kernel) → back (root (named u p)) ≡ Some x → ⊥
unfolding back
named_root u (first, None) x e = let d : back (n.Own first) ≡ Some x = ap back (sym (root_of (n.Own first) [] u)) ∙ e in cc
named_root u (first, Some more) x e = let d : back (n.Earlier first more) ≡ Some x = ap back (sym (root_of (n.Earlier first more) [] u)) ∙ e in cc

constant_root : (t : Tree) → (h : Has Constant t) → (x : Kernel) × IsPlain x × (back (root t) ≡ Some x)
constant_root t h =
    let one : Has (One (kernel constant)) h.phrase.of = record { tokens = h.tokens; plain = h.plain; phrase = h.phrase.phrase } in
    let p = plain_one constant h.phrase.of one in
    let e : root t ≡ h.phrase.of = ap root h.phrase.is ∙ root_of h.phrase.of [] h.tokens in
    (p.0, p.1, ap back e ∙ constant_back p.0 h.phrase.of p.2)

-- a constant of this kernel
pub prints_constant : (t : Tree) (x : Kernel) (front : List ℕ) → constant x ≡ Some (root t) → (IsPlain x → IsSpelled x front) → Prints Operand SameTree t (front ++ 32 ∷ [])
prints_constant t x front e spelled =
    prints_left Constant Named SameTree t (front ++ 32 ∷ [])
    (λ h. named_root h.tokens h.phrase.of x (ap (λ z. back (root z)) (sym h.phrase.is) ∙ constant_back x (root t) e))
    (λ has.
    let c = constant_root t has in
    let same : c.0 ≡ x = (let i : Some c.0 ≡ Some x = sym c.2 ∙ constant_back x (root t) e in cc) in
    prints_built (λ ts y. tree y [] ts) (One (kernel constant)) Equal SameTree t (front ++ 32 ∷ [])
    (λ u y is. prints_one constant Equal y x front (e ∙ ap (λ z. Some z) (ap root is ∙ root_of y [] u)) (spelled (subst IsPlain same c.1)) refl)
    (λ u ts y z is q. subst (λ w. SameTree w (tree z [] ts)) (sym is) (subst (λ w. SameTree (tree y [] u) (tree w [] ts)) q (same_roots y [] [] u ts none))) has)

pub prints_number : (t : Tree) (x : ℕ) → root t ≡ n.Whole x → Prints Operand SameTree t (decimal x ++ 32 ∷ [])
prints_number t x e = prints_constant t (k.Whole x) (decimal x) (ap (λ z. Some z) (sym e)) (number_spelled x)

pub prints_decimal : (t : Tree) (units scale : ℕ) (x : List ℕ) → root t ≡ n.Decimal units scale → IsDecimalOf units scale x → Prints Operand SameTree t (x ++ 32 ∷ [])
prints_decimal t units scale x e d = prints_constant t (k.Decimal units scale) x (ap (λ z. Some z) (sym e)) (λ p. decimal_spelled x units scale d p.0 p.1 p.2)

pub prints_literal : (t : Tree) (text : List ℕ) → root t ≡ n.Literal text → Prints Operand SameTree t ((39 ∷ (doubled text ++ 39 ∷ [])) ++ 32 ∷ [])
prints_literal t text e = prints_constant t (k.Literal text) (39 ∷ (doubled text ++ 39 ∷ [])) (ap (λ z. Some z) (sym e)) (λ p. literal_spelled text)

-- the same, as it is written
pub prints_literal_text : (t : Tree) (text : List ℕ) → root t ≡ n.Literal text → Prints Operand SameTree t (39 ∷ (doubled text ++ 39 ∷ 32 ∷ []))
prints_literal_text t text e = subst (Prints Operand SameTree t) (ap (λ l. 39 ∷ l) (append_assoc (doubled text) (39 ∷ []) (32 ∷ []))) (prints_literal t text e)

-- ---- names

no_constant : (t : Tree) → back (root t) ≡ None → Has Constant t → ⊥
no_constant t e h = let c = constant_root t h in let i : None ≡ Some c.0 = sym e ∙ c.2 in cc

named_same : (u ts : List Token) (p : List ℕ × Option (List ℕ)) → SameTree (named u p) (named ts p)
named_same u ts (first, None) = same_roots (n.Own first) [] [] u ts none
named_same u ts (first, Some more) = same_roots (n.Earlier first more) [] [] u ts none

-- a tree of names is written as its names
prints_named : (t : Tree) (p : List ℕ × Option (List ℕ)) (x : List ℕ) → ((u : List Token) (q : List ℕ × Option (List ℕ)) → t ≡ named u q → q ≡ p) → back (root t) ≡ None
    → Prints (Both (One (kernel name)) (Optional Dotted)) (Paired Equal Equal) p x → Prints Operand SameTree t x
prints_named t p x only leaf f =
    prints_right Constant Named SameTree t x (no_constant t leaf)
    (prints_built named (Both (One (kernel name)) (Optional Dotted)) (Paired Equal Equal) SameTree t x
    (λ u q is. subst (λ z. Prints (Both (One (kernel name)) (Optional Dotted)) (Paired Equal Equal) z x) (sym (only u q is)) f)
    (λ u ts q r is s. subst (λ z. SameTree z (named ts r)) (sym is) (subst (λ z. SameTree (named u q) (named ts z)) (λ i. (s.0 i, s.1 i)) (named_same u ts q))))

own_only : (t : Tree) (x : List ℕ) → root t ≡ n.Own x → (u : List Token) (q : List ℕ × Option (List ℕ)) → t ≡ named u q → q ≡ (x, None)
own_only t x e u (first, None) is = let d : n.Own first ≡ n.Own x = sym (root_of (n.Own first) [] u) ∙ sym (ap root is) ∙ e in let c : first ≡ x = cc in ap (λ z. (z, None)) c
own_only t x e u (first, Some more) is = let d : n.Earlier first more ≡ n.Own x = sym (root_of (n.Earlier first more) [] u) ∙ sym (ap root is) ∙ e in absurd cc

earlier_only : (t : Tree) (x y : List ℕ) → root t ≡ n.Earlier x y → (u : List Token) (q : List ℕ × Option (List ℕ)) → t ≡ named u q → q ≡ (x, Some y)
earlier_only t x y e u (first, None) is = let d : n.Own first ≡ n.Earlier x y = sym (root_of (n.Own first) [] u) ∙ sym (ap root is) ∙ e in absurd cc
earlier_only t x y e u (first, Some more) is =
    let d : n.Earlier first more ≡ n.Earlier x y = sym (root_of (n.Earlier first more) [] u) ∙ sym (ap root is) ∙ e in
    let c : first ≡ x = cc in
    let b : more ≡ y = cc in
    (λ i. (c i, Some (b i)))

pub prints_own : (t : Tree) (x : List ℕ) → root t ≡ n.Own x → Prints Operand SameTree t (x ++ 32 ∷ [])
unfolding back
prints_own t x e = prints_named t (x, None) (x ++ 32 ∷ []) (own_only t x e) (ap back e)
    (subst (λ z. Prints (Both (One (kernel name)) (Optional Dotted)) (Paired Equal Equal) (x, None) z) (append-nil (x ++ 32 ∷ []))
    (prints_both (One (kernel name)) (Optional Dotted) Equal Equal (x, None) (x ++ 32 ∷ []) [] (prints_name x) (prints_none Dotted Equal refl)))

pub prints_earlier : (t : Tree) (x y : List ℕ) → root t ≡ n.Earlier x y → Prints Operand SameTree t ((x ++ 32 ∷ []) ++ ((codes "." ++ 32 ∷ []) ++ (y ++ 32 ∷ [])))
unfolding back
prints_earlier t x y e = prints_named t (x, Some y) ((x ++ 32 ∷ []) ++ ((codes "." ++ 32 ∷ []) ++ (y ++ 32 ∷ []))) (earlier_only t x y e) (ap back e)
    (prints_both (One (kernel name)) (Optional Dotted) Equal Equal (x, Some y) (x ++ 32 ∷ []) ((codes "." ++ 32 ∷ []) ++ (y ++ 32 ∷ [])) (prints_name x)
    (prints_some Dotted Equal Equal y ((codes "." ++ 32 ∷ []) ++ (y ++ 32 ∷ [])) (λ b h. ap (λ z. Some z) h)
    (prints_after m.Dot (One (kernel name)) Equal y k.Dot (codes ".") (y ++ 32 ∷ []) refl (mark_spelled k.Dot (codes ".") refl) (prints_name y))))

-- Roots of operands.
abbrev pub IsLeaf : Node → Type 0
IsLeaf (n.Whole x) = Unit {0}
IsLeaf (n.Decimal units scale) = Unit {0}
IsLeaf (n.Literal text) = Unit {0}
IsLeaf (n.Own x) = Unit {0}
IsLeaf (n.Earlier x y) = Unit {0}
IsLeaf _ = ⊥

constant_leaf : (x : Kernel) (node : Node) → constant x ≡ Some node → IsLeaf node
constant_leaf (k.Whole x) node e = let d : n.Whole x ≡ node = cc in subst IsLeaf d tt
constant_leaf (k.Decimal units scale) node e = let d : n.Decimal units scale ≡ node = cc in subst IsLeaf d tt
constant_leaf (k.Literal text) node e = let d : n.Literal text ≡ node = cc in subst IsLeaf d tt
constant_leaf _ node e = absurd cc

named_leaf : (u : List Token) (p : List ℕ × Option (List ℕ)) → IsLeaf (root (named u p))
named_leaf u (first, None) = subst IsLeaf (sym (root_of (n.Own first) [] u)) tt
named_leaf u (first, Some more) = subst IsLeaf (sym (root_of (n.Earlier first more) [] u)) tt

pub operand_leaf : (u : List Token) (t : Tree) → Operand u t → IsLeaf (root t)
operand_leaf u t (left d) = subst IsLeaf (sym (ap root d.is ∙ root_of d.of [] u)) (constant_leaf d.phrase.token.kernel d.of d.phrase.is)
operand_leaf u t (right d) = subst (λ z. IsLeaf (root z)) (sym d.is) (named_leaf u d.of)

-- Other roots are those of no operand.
pub no_leaf : (node : Node) → ((x : ℕ) → node ≢ n.Whole x) → ((units scale : ℕ) → node ≢ n.Decimal units scale) → ((x : List ℕ) → node ≢ n.Literal x) → ((x : List ℕ) → node ≢ n.Own x) → ((x y : List ℕ) → node ≢ n.Earlier x y) → IsLeaf node → ⊥
no_leaf (n.Whole x) a b c d e h = a x refl
no_leaf (n.Decimal units scale) a b c d e h = b units scale refl
no_leaf (n.Literal text) a b c d e h = c text refl
no_leaf (n.Own x) a b c d e h = d x refl
no_leaf (n.Earlier x y) a b c d e h = e x y refl
no_leaf n.Minus a b c d e h = h
no_leaf n.Add a b c d e h = h
no_leaf n.Sub a b c d e h = h
no_leaf n.Mul a b c d e h = h
no_leaf (n.Test x) a b c d e h = h
no_leaf n.And a b c d e h = h
no_leaf n.Or a b c d e h = h
no_leaf n.Not a b c d e h = h
