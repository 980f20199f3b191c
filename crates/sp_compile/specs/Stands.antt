-- When a plan stands for a query: the same columns, names, elements, window, policy and consumed names, one to one, and predicates that hold where those of the query are true.
use Rattle.std.specs.Prelude.{◌≡◌, ℕ, ◌+◌, pos, Bool, false, not, List, [], ◌∷◌, ◌++◌, length, map, fold, Option, Some, None}
use Rattle.std.specs.List.{find, list_any}
use Rattle.std.specs.Str.{bytes_eq}
use Rattle.sp_lex.specs.declared.token.Word.{Word}
use Rattle.sp_lex.specs.declared.token.Word.TheVariants as w
use Rattle.sp_plan.specs.declared.event.Event.{Event}
use Rattle.sp_plan.specs.declared.plan.Plan.{Plan}
use Rattle.sp_plan.specs.declared.plan.Name.{Name}
use Rattle.sp_plan.specs.declared.plan.Column.{Column}
use Rattle.sp_plan.specs.declared.plan.Kind.{Kind}
use Rattle.sp_plan.specs.declared.plan.Kind.TheVariants as k
use Rattle.sp_plan.specs.declared.plan.Pred.{Pred, Always}
use Rattle.sp_plan.specs.declared.plan.Element.{Element}
use Rattle.sp_plan.specs.declared.plan.Element.TheVariants as p
use Rattle.sp_plan.specs.declared.plan.Select.{Select}
use Rattle.sp_plan.specs.declared.plan.Select.TheVariants as s
use Rattle.sp_plan.specs.declared.plan.Length.{Length}
use Rattle.sp_plan.specs.declared.plan.Length.TheVariants as l
use Rattle.sp_plan.specs.declared.plan.Opening.{Opening}
use Rattle.sp_plan.specs.declared.plan.Opening.TheVariants as v
use Rattle.sp_plan.specs.Texts.{with_text}
use Rattle.sp_plan.specs.Values.{BoundEvents, holds}
use Rattle.sp_query.specs.declared.tree.Tree.{Tree, out-Tree}
use Rattle.sp_query.specs.declared.tree.Node.{Node}
use Rattle.sp_query.specs.declared.tree.Node.TheVariants as n
use Rattle.sp_query.specs.declared.query.Ident.{Ident}
use Rattle.sp_query.specs.declared.query.Query.{Query}
use Rattle.sp_query.specs.declared.query.QueryColumn.{QueryColumn}
use Rattle.sp_query.specs.declared.query.QueryElement.{QueryElement}
use Rattle.sp_query.specs.declared.query.QueryElement.TheVariants as e
use Rattle.sp_query.specs.declared.query.QueryOpening.{QueryOpening}
use Rattle.sp_query.specs.declared.query.QueryOpening.TheVariants as o
use Rattle.sp_query.specs.declared.query.QueryConsume.{QueryConsume}
use Rattle.sp_query.specs.declared.query.QueryConsume.TheVariants as u
use Rattle.sp_compile.specs.Scopes.{Scope, pattern_names, column_place, PatternName}
use Rattle.sp_compile.specs.Checks.{scope_of}
use Rattle.sp_compile.specs.Meaning.{Truth}

-- ---- columns

abbrev pub kind_of : Word → ℕ → Kind
kind_of w.Int digits = k.Int
kind_of w.Dec digits = k.Dec digits
kind_of _ digits = k.Text

abbrev pub plan_column : QueryColumn → Column
plan_column column = record { name = column.name.text; kind = kind_of column.kind column.digits }

-- the place of the time's column
abbrev pub time_place : List QueryColumn → Option Ident → Option ℕ
time_place columns None = None
time_place columns (Some name) = column_place columns name.text

-- ---- elements

-- an element of which the first name has this number
abbrev pub plan_element : ℕ → QueryElement → Element
plan_element at (e.One name) = p.One at
plan_element at (e.Plus name span) = p.Plus at
plan_element at (e.Set names) = p.Set at (length names)
plan_element at (e.Never name span) = p.Never at

abbrev pub width : QueryElement → ℕ
width (e.Set names) = length names
width _ = 1

-- elements of which the first name of the first has this number
abbrev pub plan_elements : ℕ → List QueryElement → List Element
plan_elements at [] = []
plan_elements at (element ∷ elements) = plan_element at element ∷ plan_elements (at + width element) elements

-- ---- texts

-- the text that stands at a root
abbrev pub literal_of : Node → List (List ℕ)
literal_of (n.Literal text) = text ∷ []
literal_of _ = []

-- The texts of trees, in the order in which they stand.
pub data Literals : List Tree → List (List ℕ) → Type 0 where
  none : Literals [] []
  some : (t : Tree) (rest : List Tree) (own others texts : List (List ℕ)) → Literals (out-Tree t).parts own → Literals rest others → texts ≡ literal_of (out-Tree t).node ++ (own ++ others) → Literals (t ∷ rest) texts

abbrev pub opening_trees : QueryOpening → List Tree
opening_trees (o.Every number unit span) = []
opening_trees (o.When pred) = pred ∷ []

-- the predicates of a query, in the order in which they stand
abbrev pub all_trees : Query → List Tree
all_trees query = map (λ define. define.1) query.defines ++ opening_trees query.opening

-- ---- names and predicates

-- The predicate holds exactly where this tree is true, whatever the event at hand and the events bound before it.
abbrev pub HoldsAs : Scope → List (List ℕ) → Tree → Pred → Type 0
HoldsAs scope texts tree pred = (event : Event) (bound : BoundEvents) → Truth scope texts event bound tree (holds pred event bound)

-- The predicate of a name stands for its definition; without one it holds always.
abbrev pub StandsForDefinition : Query → List (List ℕ) → PatternName → Option (Ident × Tree) → Pred → Type 0
StandsForDefinition query texts name None pred = pred ≡ Always
StandsForDefinition query texts name (Some define) pred = HoldsAs (scope_of query (Some name)) texts define.1 pred

-- the definition of a name
abbrev pub definition_of : Query → List ℕ → Option (Ident × Tree)
definition_of query text = find (λ define. bytes_eq define.0.text text) query.defines

-- whether a match consumes the events of a name: ALL is every name that isn't negated
abbrev pub is_consumed : QueryConsume → PatternName → Bool
is_consumed u.All name = not name.negated
is_consumed u.None name = false
is_consumed (u.Names names) name = list_any (λ other. bytes_eq other.text name.name.text) names

-- A name of the plan stands for a name of the pattern.
pub record StandsForName (query : Query) (texts : List (List ℕ)) (name : PatternName) (planned : Name) : Type 0 where
  pub text : planned.text ≡ name.name.text
  pub pred : StandsForDefinition query texts name (definition_of query name.name.text) planned.pred
  pub consumed : planned.consumed ≡ is_consumed query.consume name

-- Names stand for names, one by one.
abbrev pub StandForNames : Query → List (List ℕ) → List PatternName → List Name → Type 0
StandForNames query texts [] [] = Unit {0}
StandForNames query texts (name ∷ names) (planned ∷ plans) = StandsForName query texts name planned × StandForNames query texts names plans
StandForNames query texts _ _ = ⊥

-- ---- windows and policy

abbrev pub plan_select : Word → Select
plan_select w.Last = s.Last
plan_select w.Each = s.Each
plan_select _ = s.First

abbrev pub plan_length : ℕ → Word → Length
plan_length number w.Time = l.Time (pos number)
plan_length number _ = l.Events number

abbrev pub plan_step : ℕ → Word → Opening
plan_step number w.Time = v.EveryTime (pos number)
plan_step number _ = v.EveryEvents number

-- An opening stands for an opening.
abbrev pub StandsForOpening : Query → List (List ℕ) → QueryOpening → Opening → Type 0
StandsForOpening query texts (o.Every number unit span) opening = opening ≡ plan_step number unit
StandsForOpening query texts (o.When tree) (v.When pred) = HoldsAs (scope_of query None) texts tree pred
StandsForOpening query texts (o.When tree) _ = ⊥

-- ---- the whole

pub record Stands (q : Plan) (query : Query) : Type 0 where
  pub columns : q.schema.columns ≡ map plan_column query.columns
  pub time : q.schema.time ≡ time_place query.columns query.time
  pub literals : List (List ℕ)
  pub of_trees : Literals (all_trees query) literals
  pub texts : q.texts ≡ fold with_text [] literals
  pub names : StandForNames query q.texts (pattern_names query) q.names
  pub elements : q.elements ≡ plan_elements 0 query.elements
  pub select : q.select ≡ plan_select query.select
  pub length : q.length ≡ plan_length query.length.0 query.length.1
  pub opening : StandsForOpening query q.texts query.opening q.opening
