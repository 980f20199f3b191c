-- Queries that differ in their places at most.
use Rattle.std.specs.Prelude.{◌≡◌, ℕ, List, [], ◌∷◌, Option, Some, None}
use Rattle.sp_lex.specs.declared.token.Span.{Span}
use Rattle.sp_lex.specs.declared.token.Word.{Word}
use Rattle.sp_query.specs.declared.tree.Tree.{Tree}
use Rattle.sp_query.specs.declared.tree.Node.{Node}
use Rattle.sp_query.specs.declared.query.Ident.{Ident}
use Rattle.sp_query.specs.declared.query.Query.{Query}
use Rattle.sp_query.specs.declared.query.QueryColumn.{QueryColumn}
use Rattle.sp_query.specs.declared.query.QueryElement.{QueryElement}
use Rattle.sp_query.specs.declared.query.QueryElement.TheVariants as e
use Rattle.sp_query.specs.declared.query.QueryOpening.{QueryOpening}
use Rattle.sp_query.specs.declared.query.QueryOpening.TheVariants as o
use Rattle.sp_query.specs.declared.query.QueryConsume.{QueryConsume}
use Rattle.sp_query.specs.declared.query.QueryConsume.TheVariants as u
use Rattle.sp_query.specs.Trees.{tree_at}

-- The items of two lists are so related, one by one.
abbrev pub Pairwise : {A : Type 0} → (A → A → Type 0) → List A → List A → Type 0
Pairwise R [] [] = Unit {0}
Pairwise R (x ∷ xs) (y ∷ ys) = R x y × Pairwise R xs ys
Pairwise R _ _ = ⊥

-- Trees of one form: the same roots over parts of one form.
pub data SameTrees : List Tree → List Tree → Type 0 where
  none : SameTrees [] []
  some : (node : Node) (span other : Span) (parts those rest more : List Tree) → SameTrees parts those → SameTrees rest more → SameTrees (tree_at node parts span ∷ rest) (tree_at node those other ∷ more)

abbrev pub SameTree : Tree → Tree → Type 0
SameTree x y = SameTrees (x ∷ []) (y ∷ [])

abbrev pub SameIdent : Ident → Ident → Type 0
SameIdent x y = x.text ≡ y.text

abbrev pub SameTime : Option Ident → Option Ident → Type 0
SameTime None None = Unit {0}
SameTime (Some x) (Some y) = SameIdent x y
SameTime _ _ = ⊥

abbrev pub SameColumn : QueryColumn → QueryColumn → Type 0
SameColumn x y = SameIdent x.name y.name × (x.kind ≡ y.kind) × (x.digits ≡ y.digits)

abbrev pub SameElement : QueryElement → QueryElement → Type 0
SameElement (e.One x) (e.One y) = SameIdent x y
SameElement (e.Plus x span) (e.Plus y other) = SameIdent x y
SameElement (e.Set xs) (e.Set ys) = Pairwise SameIdent xs ys
SameElement (e.Never x span) (e.Never y other) = SameIdent x y
SameElement _ _ = ⊥

abbrev pub SameDefinition : Ident × Tree → Ident × Tree → Type 0
SameDefinition x y = SameIdent x.0 y.0 × SameTree x.1 y.1

abbrev pub SameOpening : QueryOpening → QueryOpening → Type 0
SameOpening (o.Every n word span) (o.Every k other place) = (n ≡ k) × (word ≡ other)
SameOpening (o.When x) (o.When y) = SameTree x y
SameOpening _ _ = ⊥

abbrev pub SameConsume : QueryConsume → QueryConsume → Type 0
SameConsume u.All u.All = Unit {0}
SameConsume u.None u.None = Unit {0}
SameConsume (u.Names xs) (u.Names ys) = Pairwise SameIdent xs ys
SameConsume _ _ = ⊥

abbrev pub SameLength : ℕ × Word × Span → ℕ × Word × Span → Type 0
SameLength x y = (x.0 ≡ y.0) × (x.1 ≡ y.1)

-- Two queries are the same but for the places of their parts.
pub record Same (x y : Query) : Type 0 where
  pub columns : Pairwise SameColumn x.columns y.columns
  pub time : SameTime x.time y.time
  pub elements : Pairwise SameElement x.elements y.elements
  pub defines : Pairwise SameDefinition x.defines y.defines
  pub length : SameLength x.length y.length
  pub opening : SameOpening x.opening y.opening
  pub select : x.select ≡ y.select
  pub consume : SameConsume x.consume y.consume
