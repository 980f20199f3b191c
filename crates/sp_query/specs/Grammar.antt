-- The grammar of queries. A number says how many levels of nesting a predicate may still open: each `[`, `(`, NOT and unary `-` opens one.
use Rattle.std.specs.Prelude.{ℕ, zero, suc, List, [], ◌∷◌, ◌++◌, Option, Some, None}
use Rattle.sp_lex.specs.declared.token.Span.{Span}
use Rattle.sp_lex.specs.declared.token.Token.{Token}
use Rattle.sp_lex.specs.declared.token.Word.{Word}
use Rattle.sp_lex.specs.declared.token.Word.TheVariants as w
use Rattle.sp_lex.specs.declared.token.Kernel.{Kernel}
use Rattle.sp_lex.specs.declared.token.Kernel.TheVariants as k
use Rattle.sp_plan.specs.declared.plan.Compare.TheVariants as c
use Rattle.sp_query.specs.declared.mark.Mark.{Mark}
use Rattle.sp_query.specs.declared.mark.Mark.TheVariants as m
use Rattle.sp_query.specs.declared.tree.Tree.{Tree}
use Rattle.sp_query.specs.declared.tree.Node.{Node}
use Rattle.sp_query.specs.declared.tree.Node.TheVariants as n
use Rattle.sp_query.specs.declared.query.Ident.{Ident}
use Rattle.sp_query.specs.declared.query.Query.{Query}
use Rattle.sp_query.specs.declared.query.QueryColumn.{QueryColumn}
use Rattle.sp_query.specs.declared.query.QueryElement.{QueryElement}
use Rattle.sp_query.specs.declared.query.QueryElement.TheVariants as e
use Rattle.sp_query.specs.declared.query.QueryOpening.{QueryOpening}
use Rattle.sp_query.specs.declared.query.QueryOpening.TheVariants as o
use Rattle.sp_query.specs.declared.query.QueryConsume.{QueryConsume}
use Rattle.sp_query.specs.declared.query.QueryConsume.TheVariants as u
use Rattle.sp_query.specs.Trees.{tree_at}
use Rattle.sp_query.specs.Phrase.{One, Both, Either, Built, Optional, Repeat}

-- ---- places

-- where the first of these tokens begins, and where the last one ends
abbrev pub first_from : List Token → ℕ
first_from [] = 0
first_from (t ∷ ts) = t.span.from

abbrev pub last_to : List Token → ℕ
last_to [] = 0
last_to (t ∷ []) = t.span.to
last_to (t ∷ u ∷ ts) = last_to (u ∷ ts)

-- the span from the first of these tokens to the last
abbrev pub span : List Token → Span
span tokens = record { from = first_from tokens; to = last_to tokens }

abbrev pub tree : Node → List Tree → List Token → Tree
tree node parts tokens = tree_at node parts (span tokens)

-- ---- tokens, by what they are read as

abbrev pub kernel : {A : Type 0} → (Kernel → Option A) → Token → Option A
kernel f t = f t.kernel

-- a mark or a word that says nothing more
abbrev pub mark : Mark → Kernel → Option (Unit {0})
mark m.LeftRound k.LeftRound = Some tt
mark m.RightRound k.RightRound = Some tt
mark m.LeftSquare k.LeftSquare = Some tt
mark m.RightSquare k.RightSquare = Some tt
mark m.Comma k.Comma = Some tt
mark m.Dot k.Dot = Some tt
mark m.Plus k.Plus = Some tt
mark m.Minus k.Minus = Some tt
mark m.Bang k.Bang = Some tt
mark m.Event (k.Word w.Event) = Some tt
mark m.Time (k.Word w.Time) = Some tt
mark m.Pattern (k.Word w.Pattern) = Some tt
mark m.Set (k.Word w.Set) = Some tt
mark m.Define (k.Word w.Define) = Some tt
mark m.As (k.Word w.As) = Some tt
mark m.Within (k.Word w.Within) = Some tt
mark m.From (k.Word w.From) = Some tt
mark m.Every (k.Word w.Every) = Some tt
mark m.When (k.Word w.When) = Some tt
mark m.Select (k.Word w.Select) = Some tt
mark m.Consume (k.Word w.Consume) = Some tt
mark m.Dec (k.Word w.Dec) = Some tt
mark m.Not (k.Word w.Not) = Some tt
mark _ _ = None

abbrev pub name : Kernel → Option (List ℕ)
name (k.Name text) = Some text
name _ = None

abbrev pub whole : Kernel → Option ℕ
whole (k.Whole x) = Some x
whole _ = None

-- whole | decimal | literal
abbrev pub constant : Kernel → Option Node
constant (k.Whole x) = Some (n.Whole x)
constant (k.Decimal units scale) = Some (n.Decimal units scale)
constant (k.Literal text) = Some (n.Literal text)
constant _ = None

abbrev pub times : Kernel → Option Node
times k.Star = Some n.Mul
times _ = None

-- "+" | "-"
abbrev pub plus : Kernel → Option Node
plus k.Plus = Some n.Add
plus k.Minus = Some n.Sub
plus _ = None

-- "=" | "<>" | "<" | "<=" | ">" | ">="
abbrev pub compare : Kernel → Option Node
compare k.Equal = Some (n.Test c.Equal)
compare k.Unequal = Some (n.Test c.Unequal)
compare k.Less = Some (n.Test c.Less)
compare k.AtMost = Some (n.Test c.AtMost)
compare k.Greater = Some (n.Test c.Greater)
compare k.AtLeast = Some (n.Test c.AtLeast)
compare _ = None

abbrev pub both_hold : Kernel → Option Node
both_hold (k.Word w.And) = Some n.And
both_hold _ = None

abbrev pub one_holds : Kernel → Option Node
one_holds (k.Word w.Or) = Some n.Or
one_holds _ = None

-- INT | TEXT
abbrev pub plain_kind : Kernel → Option Word
plain_kind (k.Word w.Int) = Some w.Int
plain_kind (k.Word w.Text) = Some w.Text
plain_kind _ = None

-- EVENTS | TIME
abbrev pub unit : Kernel → Option Word
unit (k.Word w.Events) = Some w.Events
unit (k.Word w.Time) = Some w.Time
unit _ = None

-- FIRST | LAST | EACH
abbrev pub policy : Kernel → Option Word
policy (k.Word w.First) = Some w.First
policy (k.Word w.Last) = Some w.Last
policy (k.Word w.Each) = Some w.Each
policy _ = None

-- ALL | NONE
abbrev pub all_or_none : Kernel → Option QueryConsume
all_or_none (k.Word w.All) = Some u.All
all_or_none (k.Word w.None) = Some u.None
all_or_none _ = None

-- ---- forms that several productions have

-- a mark, and then a phrase
abbrev pub After : {A : Type 0} → Mark → (List Token → A → Type 0) → List Token → A → Type 0
After which L = Built (λ tokens p. p.1) (Both (One (kernel (mark which))) L)

-- a phrase between two marks
abbrev pub Between : {A : Type 0} → Mark → (List Token → A → Type 0) → Mark → List Token → A → Type 0
Between left L right = Built (λ tokens p. p.1.0) (Both (One (kernel (mark left))) (Both L (One (kernel (mark right)))))

-- a list of one
abbrev pub Alone : {A : Type 0} → (List Token → A → Type 0) → List Token → List A → Type 0
Alone L = Built (λ tokens x. x ∷ []) L

-- L { "," L }
abbrev pub ListOf : {A : Type 0} → (List Token → A → Type 0) → List Token → List A → Type 0
ListOf L = Repeat (Alone L) (Both (One (kernel (mark m.Comma))) L) (λ tokens xs p. xs ++ p.1 ∷ [])

-- M { L }, where M has some of them
abbrev pub MoreOf : {A : Type 0} → (List Token → List A → Type 0) → (List Token → A → Type 0) → List Token → List A → Type 0
MoreOf M L = Repeat M L (λ tokens xs x. xs ++ x ∷ [])

-- L { op L }, grouped from the left
abbrev pub joined : List Token → Tree → Node × Tree → Tree
joined tokens a p = tree p.0 (a ∷ p.1 ∷ []) tokens

abbrev pub Grouped : (List Token → Tree → Type 0) → (Kernel → Option Node) → List Token → Tree → Type 0
Grouped L op = Repeat L (Both (One (kernel op)) L) joined

-- a mark, and then an operand
abbrev pub Applied : Mark → Node → (List Token → Tree → Type 0) → List Token → Tree → Type 0
Applied which node L = Built (λ tokens p. tree node (p.1 ∷ []) tokens) (Both (One (kernel (mark which))) L)

-- ---- expressions

abbrev pub Constant : List Token → Tree → Type 0
Constant = Built (λ tokens x. tree x [] tokens) (One (kernel constant))

-- "." name
abbrev pub Dotted : List Token → List ℕ → Type 0
Dotted = After m.Dot (One (kernel name))

abbrev pub named : List Token → List ℕ × Option (List ℕ) → Tree
named tokens (first, None) = tree (n.Own first) [] tokens
named tokens (first, Some second) = tree (n.Earlier first second) [] tokens

-- name [ "." name ]
abbrev pub Named : List Token → Tree → Type 0
Named = Built named (Both (One (kernel name)) (Optional Dotted))

-- whole | decimal | literal | name [ "." name ]
abbrev pub Operand : List Token → Tree → Type 0
Operand = Either Constant Named

-- factor { "*" factor }
abbrev pub TermOf : (List Token → Tree → Type 0) → List Token → Tree → Type 0
TermOf F = Grouped F times

-- term { ( "+" | "-" ) term }
abbrev pub SumOf : (List Token → Tree → Type 0) → List Token → Tree → Type 0
SumOf F = Grouped (TermOf F) plus

-- operand | "-" factor | "(" sum ")"
unfoldable pub Factor : ℕ → List Token → Tree → Type 0
Factor zero = Operand
Factor (suc room) = Either Operand (Either (Applied m.Minus n.Minus (Factor room)) (Between m.LeftRound (SumOf (Factor room)) m.RightRound))

abbrev pub Sum : ℕ → List Token → Tree → Type 0
Sum room = SumOf (Factor room)

-- ---- predicates

-- sum compare sum
abbrev pub TestOf : (List Token → Tree → Type 0) → List Token → Tree → Type 0
TestOf S = Built (λ tokens p. tree p.1.0 (p.0 ∷ p.1.1 ∷ []) tokens) (Both S (Both (One (kernel compare)) S))

-- atom { AND atom }
abbrev pub ConjOf : (List Token → Tree → Type 0) → List Token → Tree → Type 0
ConjOf A = Grouped A both_hold

-- conj { OR conj }
abbrev pub PredOf : (List Token → Tree → Type 0) → List Token → Tree → Type 0
PredOf A = Grouped (ConjOf A) one_holds

-- sum compare sum | NOT atom | "[" pred "]"
unfoldable pub Atom : ℕ → List Token → Tree → Type 0
Atom zero = TestOf (Sum zero)
Atom (suc room) = Either (TestOf (Sum (suc room))) (Either (Applied m.Not n.Not (Atom room)) (Between m.LeftSquare (PredOf (Atom room)) m.RightSquare))

abbrev pub Pred : ℕ → List Token → Tree → Type 0
Pred room = PredOf (Atom room)

-- ---- clauses

abbrev pub Name : List Token → Ident → Type 0
Name = Built (λ tokens x. record { text = x; span = span tokens }) (One (kernel name))

-- INT | TEXT | DEC whole
abbrev pub KindOf : List Token → Word × ℕ → Type 0
KindOf = Either (Built (λ tokens word. (word, 0)) (One (kernel plain_kind))) (Built (λ tokens digits. (w.Dec, digits)) (After m.Dec (One (kernel whole))))

-- name ( INT | DEC whole | TEXT )
abbrev pub Column : List Token → QueryColumn → Type 0
Column = Built (λ tokens p. record { name = p.0; kind = p.1.0; digits = p.1.1; span = span tokens }) (Both Name KindOf)

-- EVENT "(" column { "," column } ")"
abbrev pub Columns : List Token → List QueryColumn → Type 0
Columns = After m.Event (Between m.LeftRound (ListOf Column) m.RightRound)

-- TIME name
abbrev pub Timed : List Token → Ident → Type 0
Timed = After m.Time Name

abbrev pub single : List Token → Ident × Option (Unit {0}) → QueryElement
single tokens (x, None) = e.One x
single tokens (x, Some sign) = e.Plus x (span tokens)

-- name [ "+" ]
abbrev pub Single : List Token → QueryElement → Type 0
Single = Built single (Both Name (Optional (One (kernel (mark m.Plus)))))

-- name name { name }
abbrev pub Names : List Token → List Ident → Type 0
Names = MoreOf (Built (λ tokens p. p.0 ∷ p.1 ∷ []) (Both Name Name)) Name

-- SET "(" name name { name } ")"
abbrev pub Several : List Token → QueryElement → Type 0
Several = Built (λ tokens names. e.Set names) (After m.Set (Between m.LeftRound Names m.RightRound))

-- "!" name
abbrev pub Negated : List Token → QueryElement → Type 0
Negated = Built (λ tokens x. e.Never x (span tokens)) (After m.Bang Name)

-- name [ "+" ] | SET "(" name name { name } ")" | "!" name
abbrev pub Element : List Token → QueryElement → Type 0
Element = Either Single (Either Several Negated)

-- PATTERN "(" element { element } ")"
abbrev pub Elements : List Token → List QueryElement → Type 0
Elements = After m.Pattern (Between m.LeftRound (MoreOf (Alone Element) Element) m.RightRound)

-- name AS pred
abbrev pub Definition : ℕ → List Token → Ident × Tree → Type 0
Definition room = Both Name (After m.As (Pred room))

-- DEFINE define { "," define }
abbrev pub Definitions : ℕ → List Token → List (Ident × Tree) → Type 0
Definitions room = After m.Define (ListOf (Definition room))

-- whole ( EVENTS | TIME )
abbrev pub Amount : List Token → ℕ × Word → Type 0
Amount = Both (One (kernel whole)) (One (kernel unit))

-- WITHIN whole ( EVENTS | TIME )
abbrev pub Within : List Token → ℕ × Word × Span → Type 0
Within = After m.Within (Built (λ tokens p. (p.0, p.1, span tokens)) Amount)

-- EVERY whole ( EVENTS | TIME )
abbrev pub Every : List Token → QueryOpening → Type 0
Every = Built (λ tokens p. o.Every p.0 p.1 (span tokens)) (After m.Every Amount)

-- FROM ( EVERY whole ( EVENTS | TIME ) | WHEN pred )
abbrev pub Opening : ℕ → List Token → QueryOpening → Type 0
Opening room = After m.From (Either Every (Built (λ tokens p. o.When p) (After m.When (Pred room))))

-- SELECT ( FIRST | LAST | EACH )
abbrev pub Policy : List Token → Word → Type 0
Policy = After m.Select (One (kernel policy))

-- CONSUME ( ALL | NONE | "(" name { "," name } ")" )
abbrev pub Consume : List Token → QueryConsume → Type 0
Consume = After m.Consume (Either (One (kernel all_or_none)) (Built (λ tokens names. u.Names names) (Between m.LeftRound (ListOf Name) m.RightRound)))

-- the items of a clause that may be left out
abbrev pub items : {A : Type 0} → Option (List A) → List A
items None = []
items (Some xs) = xs

-- the clauses of a query
abbrev pub Clauses : Type 0
Clauses = List QueryColumn × (Option Ident × (List QueryElement × (Option (List (Ident × Tree)) × ((ℕ × Word × Span) × (QueryOpening × (Word × QueryConsume))))))

abbrev pub query : List Token → Clauses → Query
query tokens (columns, (time, (elements, (defines, (length, (opening, (select, consume))))))) = record {
  columns = columns;
  time = time;
  elements = elements;
  defines = items defines;
  length = length;
  opening = opening;
  select = select;
  consume = consume;
}

-- the clauses of a query, one after another
abbrev pub Derives : ℕ → List Token → Query → Type 0
Derives room = Built query (Both Columns (Both (Optional Timed) (Both Elements (Both (Optional (Definitions room)) (Both Within (Both (Opening room) (Both Policy Consume)))))))
