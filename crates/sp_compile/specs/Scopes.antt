-- What the names of a query are: its columns, and the names of its pattern with their elements.
use Rattle.std.specs.Prelude.{ℕ, suc, ◌≤◌, Bool, true, false, List, [], ◌∷◌, ◌++◌, map, Option, if◌then◌else◌}
use Rattle.std.specs.List.{All, position}
use Rattle.std.specs.Str.{bytes_eq}
use Rattle.sp_query.specs.declared.query.Ident.{Ident}
use Rattle.sp_query.specs.declared.query.Query.{Query}
use Rattle.sp_query.specs.declared.query.QueryColumn.{QueryColumn}
use Rattle.sp_query.specs.declared.query.QueryElement.{QueryElement}
use Rattle.sp_query.specs.declared.query.QueryElement.TheVariants as e

-- the names of an element
abbrev pub names_in : QueryElement → List Ident
names_in (e.One name) = name ∷ []
names_in (e.Plus name span) = name ∷ []
names_in (e.Set names) = names
names_in (e.Never name span) = name ∷ []

-- whether an element is a negated name
abbrev pub is_negated : QueryElement → Bool
is_negated (e.Never name span) = true
is_negated _ = false

-- A name of the pattern, the number of its element from 0, and whether it is negated.
pub record PatternName : Type 0 where
  pub name : Ident
  pub element : ℕ
  pub negated : Bool

-- a name of the element with this number, negated or not
abbrev pub in_element : ℕ → Bool → Ident → PatternName
in_element at negated name = record { name = name; element = at; negated = negated }

-- no name is of an earlier element than the names before it
abbrev pub AreOrdered : List PatternName → Type 0
AreOrdered [] = Unit {0}
AreOrdered (name ∷ names) = All (λ other. name.element ≤ other.element) names × AreOrdered names

-- the names of these elements, each with the number of its element, the first of which has this one
abbrev pub placed_names : ℕ → List QueryElement → List PatternName
placed_names at [] = []
placed_names at (element ∷ elements) = map (in_element at (is_negated element)) (names_in element) ++ placed_names (suc at) elements

-- the names of the pattern, each with the number of its element from 0
abbrev pub pattern_names : Query → List PatternName
pattern_names query = placed_names 0 query.elements

-- the numbers of those of these names that aren't negated, where the first has this number
abbrev pub binding_from : ℕ → List PatternName → List ℕ
binding_from at [] = []
binding_from at (name ∷ names) = if name.negated then binding_from (suc at) names else at ∷ binding_from (suc at) names

-- What an expression may name: columns, and names of the pattern with their elements. Those of the elements before `here`
-- are bound earlier; where there is no such element, none is. Where no event is at hand, a bare name is no column, and
-- texts are those that are known alone.
pub record Scope : Type 0 where
  pub columns : List QueryColumn
  pub names : List PatternName
  pub here : Option ℕ
  pub at_hand : Bool
  pub known : List (List ℕ)

-- the place of the first column of this name
abbrev pub column_place : List QueryColumn → List ℕ → Option ℕ
column_place columns text = position (λ column. bytes_eq column.name.text text) columns

-- the place of the first name of the pattern with this text
abbrev pub name_place : List PatternName → List ℕ → Option ℕ
name_place names text = position (λ name. bytes_eq name.name.text text) names
