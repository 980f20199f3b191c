-- What the functions that print a query promise.
use Rattle.std.specs.Prelude.{◌≡◌, ◌≢◌, ℕ, zero, suc, ◌≤◌, Option, List, [], ◌∷◌, ◌++◌, true, length}
use Rattle.std.specs.List.{list_all}
use Rattle.sp_base.specs.Limits.{number_limit}
use Rattle.sp_lex.specs.declared.token.Token.{Token}
use Rattle.sp_lex.specs.declared.token.Word.{Word}
use Rattle.sp_lex.specs.declared.token.Kernel.{Kernel}
use Rattle.sp_lex.specs.declared.token.Kernel.TheVariants as k
use Rattle.sp_lex.specs.Spelling.{spelling, is_digit, number_of, IsName, IsNumber}
use Rattle.sp_plan.specs.declared.plan.Compare.{Compare}
use Rattle.sp_plan.specs.declared.plan.Compare.TheVariants as c
use Rattle.sp_query.specs.declared.mark.Mark.{Mark}
use Rattle.sp_query.specs.declared.mark.Mark.TheVariants as m
use Rattle.sp_query.specs.declared.tree.Tree.{Tree, out-Tree}
use Rattle.sp_query.specs.declared.tree.Node.{Node}
use Rattle.sp_query.specs.declared.tree.Node.TheVariants as n
use Rattle.sp_query.specs.declared.query.Ident.{Ident}
use Rattle.sp_query.specs.Same.{Pairwise, SameDefinition}
use Rattle.sp_query.specs.Phrase.{One, Both, Built}
use Rattle.sp_query.specs.Grammar.{kernel, tree, Applied, Grouped, plus, times, one_holds, both_hold, Operand, Factor, Sum, TestOf, Atom, items}
use Rattle.sp_syntax.specs.Written.{Written, kernels}

-- A kernel that a text can have.
abbrev pub IsPlain : Kernel → Type 0
IsPlain (k.Name text) = IsName text × ((word : Word) → text ≢ spelling word)
IsPlain (k.Whole x) = x ≤ number_limit
IsPlain (k.Decimal units scale) = (units ≤ number_limit) × (1 ≤ scale) × (scale ≤ 6)
IsPlain _ = Unit {0}

-- Tokens of such kernels.
abbrev pub ArePlain : List Token → Type 0
ArePlain [] = Unit {0}
ArePlain (t ∷ ts) = IsPlain t.kernel × ArePlain ts

-- The text is written of kernels, and all tokens of these kernels are so.
pub record Spoken (K : List Token → Type 0) (text : List ℕ) : Type 0 where
  pub of : List Kernel
  pub written : Written of text
  pub reads : (tokens : List Token) → kernels tokens ≡ of → K tokens

-- Tokens that a text can have make such a phrase of this value.
pub record Has {A : Type 0} (L : List Token → A → Type 0) (a : A) : Type 0 where
  pub tokens : List Token
  pub plain : ArePlain tokens
  pub phrase : L tokens a

-- The tokens make such a phrase of a value that is the same.
pub record Again {A : Type 0} (L : List Token → A → Type 0) (R : A → A → Type 0) (a : A) (tokens : List Token) : Type 0 where
  pub other : A
  pub phrase : L tokens other
  pub same : R a other

-- Where a value comes from a text, this text gives it again.
abbrev pub Prints : {A : Type 0} → (List Token → A → Type 0) → (A → A → Type 0) → A → List ℕ → Type 0
Prints L R a text = Has L a → Spoken (Again L R a) text

-- A text grew by another, of which this holds.
pub record Adds (old new : List ℕ) (P : List ℕ → Type 0) : Type 0 where
  pub added : List ℕ
  pub is : new ≡ old ++ added
  pub so : P added

-- what a tree is at its root
abbrev pub root : Tree → Node
root t = (out-Tree t).node

-- how firmly a root binds its parts: 0 a sum or OR, 1 a product or AND, 2 whatever needs no brackets
abbrev pub rank : Node → ℕ
rank n.Add = 0
rank n.Sub = 0
rank n.Or = 0
rank n.Mul = 1
rank n.And = 1
rank _ = 2

-- Phrases of at least this rank.
abbrev pub Ranked : (Kernel → Option Node) → (Kernel → Option Node) → (ℕ → List Token → Tree → Type 0) → ℕ → ℕ → List Token → Tree → Type 0
Ranked loose firm Top zero room = Grouped (Grouped (Top room) firm) loose
Ranked loose firm Top (suc zero) room = Grouped (Top room) firm
Ranked loose firm Top (suc (suc _)) room = Top room

abbrev pub Expression : ℕ → ℕ → List Token → Tree → Type 0
Expression = Ranked plus times Factor

abbrev pub Predicate : ℕ → ℕ → List Token → Tree → Type 0
Predicate = Ranked one_holds both_hold Atom

-- L op M
abbrev pub Infix : (List Token → Tree → Type 0) → (Kernel → Option Node) → (List Token → Tree → Type 0) → List Token → Tree → Type 0
Infix L op M = Built (λ tokens p. tree p.1.0 (p.0 ∷ p.1.1 ∷ []) tokens) (Both L (Both (One (kernel op)) M))

-- How the root of a tree came about: by an operator of one of two ranks, by a sign, or otherwise.
pub data Rooted (Base Top : ℕ → List Token → Tree → Type 0) (loose firm : Kernel → Option Node) (pre : Mark) (sign : Node) (room : ℕ) (u : List Token) (t : Tree) : Type 0 where
  plain_root : Base room u t → Rooted Base Top loose firm pre sign room u t
  sign_root : (below : ℕ) → room ≡ suc below → Applied pre sign (Top below) u t → Rooted Base Top loose firm pre sign room u t
  firm_root : Infix (Grouped (Top room) firm) firm (Top room) u t → Rooted Base Top loose firm pre sign room u t
  loose_root : Infix (Grouped (Grouped (Top room) firm) loose) loose (Grouped (Top room) firm) u t → Rooted Base Top loose firm pre sign room u t

abbrev pub ExpressionRoot : ℕ → List Token → Tree → Type 0
ExpressionRoot = Rooted (λ room. Operand) Factor plus times m.Minus n.Minus

abbrev pub PredicateRoot : ℕ → List Token → Tree → Type 0
PredicateRoot = Rooted (λ room. TestOf (Sum room)) Atom one_holds both_hold m.Not n.Not

-- Such a phrase for each item of a list, one behind another.
abbrev pub Each : {A : Type 0} → (List Token → A → Type 0) → List Token → List A → Type 0
Each P tokens [] = tokens ≡ []
Each P tokens (x ∷ xs) = (front : List Token) × (back : List Token) × (tokens ≡ front ++ back) × P front x × Each P back xs

abbrev pub Equal : {A : Type 0} → A → A → Type 0
Equal x y = x ≡ y

-- The text is a number with so many decimals, in units of the last one.
pub record IsDecimalOf (units scale : ℕ) (text : List ℕ) : Type 0 where
  pub whole : List ℕ
  pub part : List ℕ
  pub cut : text ≡ whole ++ 46 ∷ part
  pub is_whole : IsNumber whole
  pub digits : list_all is_digit part ≡ true
  pub scale_is : length part ≡ scale
  pub units_is : number_of (whole ++ part) ≡ units

-- Definitions that may be left out altogether.
abbrev pub SameItems : Option (List (Ident × Tree)) → Option (List (Ident × Tree)) → Type 0
SameItems one other = Pairwise SameDefinition (items one) (items other)

-- the mark of a comparison
abbrev pub compare_mark : Compare → Kernel
compare_mark c.Equal = k.Equal
compare_mark c.Unequal = k.Unequal
compare_mark c.Less = k.Less
compare_mark c.AtMost = k.AtMost
compare_mark c.Greater = k.Greater
compare_mark c.AtLeast = k.AtLeast
