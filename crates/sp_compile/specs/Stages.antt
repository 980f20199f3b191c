-- What stands after each part of the compiler.
use Rattle.std.specs.Prelude.{◌≡◌, ◌<◌, ℕ, Bool, true, List, [], length, map, nat_le, Some, None}
use Rattle.std.specs.List.{list_all}
use Rattle.sp_plan.specs.declared.plan.Name.{Name}
use Rattle.sp_plan.specs.declared.plan.Opening.{Opening}
use Rattle.sp_plan.specs.declared.plan.Plan.{Plan}
use Rattle.sp_plan.specs.declared.plan.Schema.{Schema}
use Rattle.sp_plan.specs.Compiled.{OpeningWithin, OpeningReads}
use Rattle.sp_plan.specs.Windows.{IsOpening}
use Rattle.sp_query.specs.declared.query.Query.{Query}
use Rattle.sp_query.specs.declared.query.QueryElement.{QueryElement}
use Rattle.sp_query.specs.declared.query.QueryElement.TheVariants as e
use Rattle.sp_compile.specs.Answers.{scope_in, readable_in}
use Rattle.sp_compile.specs.declared.fault.CompileFault.{CompileFault}
use Rattle.sp_compile.specs.declared.fault.CompileFault.TheVariants as f
use Rattle.sp_compile.specs.Scopes.{pattern_names, PatternName}
use Rattle.sp_compile.specs.Checks.{columns_fault, time_fault, elements_fault, length_fault, consume_fault, OpeningFault, Then, Finds}
use Rattle.sp_compile.specs.Stands.{plan_column, time_place, plan_elements, plan_select, plan_length, StandsForOpening}

-- a set has two names or more
abbrev pub is_wide : QueryElement → Bool
is_wide (e.One name) = true
is_wide (e.Plus name span) = true
is_wide (e.Set names) = nat_le 2 (length names)
is_wide (e.Never name span) = true

-- The columns, the time and the elements have no fault, and these are the names of the pattern; it is one that a text has.
pub record NamesPass (query : Query) (listed : List PatternName) : Type 0 where
  pub columns : columns_fault [] query.columns ≡ None
  pub time : time_fault query.columns query.time ≡ None
  pub elements : elements_fault query ≡ None
  pub names : listed ≡ pattern_names query
  pub some : 0 < length (pattern_names query)
  pub wide : list_all is_wide query.elements ≡ true

-- The opening has no fault, and this one stands for it and keeps its limits.
pub record OpeningPasses (query : Query) (texts : List (List ℕ)) (opening : Opening) : Type 0 where
  pub checks : OpeningFault query query.opening None
  pub stands : StandsForOpening query texts query.opening opening
  pub within : OpeningWithin opening
  pub reads : OpeningReads (readable_in (scope_in query None) texts) opening
  pub opens : IsOpening (plan_length query.length.0 query.length.1) opening

-- what a fault says of the opening
abbrev pub Misopens : Query → CompileFault → Type 0
Misopens query f.Memory = Unit {0}
Misopens query fault = OpeningFault query query.opening (Some fault)

-- The window's length, the opening and the consumed names have no fault, and this opening stands for the query's.
pub record EndPasses (query : Query) (texts : List (List ℕ)) (opening : Opening) : Type 0 where
  pub fits : length_fault query ≡ None
  pub opens : OpeningPasses query texts opening
  pub consumed : consume_fault query query.consume ≡ None

-- what a fault says of the window's length, the opening and the consumed names
abbrev pub Misends : Query → CompileFault → Type 0
Misends query f.Memory = Unit {0}
Misends query fault = Then (Finds (length_fault query)) (Then (OpeningFault query query.opening) (Finds (consume_fault query query.consume))) (Some fault)

-- the columns of the plan, and which of them is the time's
abbrev pub plan_schema : Query → Schema
plan_schema query = record { columns = map plan_column query.columns; time = time_place query.columns query.time }

-- the plan of a query with these names, this opening and these texts
abbrev pub plan_of : Query → List Name → Opening → List (List ℕ) → Plan
plan_of query names opening texts = record {
  schema = plan_schema query;
  names = names;
  elements = plan_elements 0 query.elements;
  select = plan_select query.select;
  length = plan_length query.length.0 query.length.1;
  opening = opening;
  texts = texts;
}
