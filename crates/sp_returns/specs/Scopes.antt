-- What an item may name: the columns and names of the first query.
use Rattle.std.specs.Prelude.{ℕ, suc, Bool, false, List, [], ◌∷◌, map, Some, ◌==◌}
use Rattle.std.specs.List.{list_any}
use Rattle.sp_lex.specs.declared.token.Span.{Span}
use Rattle.sp_lex.specs.declared.token.Word.{Word}
use Rattle.sp_lex.specs.declared.token.Word.TheVariants as w
use Rattle.sp_plan.specs.declared.plan.Column.{Column}
use Rattle.sp_plan.specs.declared.plan.Kind.{Kind}
use Rattle.sp_plan.specs.declared.plan.Kind.TheVariants as k
use Rattle.sp_plan.specs.declared.plan.Name.{Name}
use Rattle.sp_plan.specs.declared.plan.Element.{Element}
use Rattle.sp_plan.specs.declared.plan.Element.TheVariants as p
use Rattle.sp_plan.specs.declared.plan.Plan.{Plan}
use Rattle.sp_query.specs.declared.query.Ident.{Ident}
use Rattle.sp_query.specs.declared.query.QueryColumn.{QueryColumn}
use Rattle.sp_compile.specs.Scopes.{Scope, PatternName}

-- a plan keeps no places
abbrev pub nowhere : Span
nowhere = record { from = 0; to = 0 }

abbrev pub ident_of : List ℕ → Ident
ident_of text = record { text = text; span = nowhere }

abbrev pub word_of : Kind → Word
word_of k.Int = w.Int
word_of (k.Dec digits) = w.Dec
word_of k.Text = w.Text

abbrev pub digits_of : Kind → ℕ
digits_of k.Int = 0
digits_of (k.Dec digits) = digits
digits_of k.Text = 0

-- a column of a plan, as a query names it
abbrev pub query_column : Column → QueryColumn
query_column column = record { name = ident_of column.name; kind = word_of column.kind; digits = digits_of column.kind; span = nowhere }

-- whether the element is this name, negated
abbrev pub is_never : ℕ → Element → Bool
is_never number (p.Never name) = name == number
is_never number _ = false

-- names of which the first has this number, negated where one of the elements says so; all are of one element, in front of the items
abbrev pub named_from : List Element → ℕ → List Ident → List PatternName
named_from elements at [] = []
named_from elements at (ident ∷ idents) = record { name = ident; element = 0; negated = list_any (is_never at) elements } ∷ named_from elements (suc at) idents

abbrev pub idents_of : List Name → List Ident
idents_of names = map (λ name. ident_of name.text) names

-- An item names columns of events that are bound to names of the first query, and texts of that query. No event is at hand.
abbrev pub item_scope : Plan → Scope
item_scope from = record {
  columns = map query_column from.schema.columns;
  names = named_from from.elements 0 (idents_of from.names);
  here = Some 1;
  at_hand = false;
  known = from.texts;
}
