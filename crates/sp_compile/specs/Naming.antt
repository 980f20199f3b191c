-- Names of the plan, as far as definitions were gone through.
use Rattle.std.specs.Prelude.{◌≡◌, ℕ, ◌<◌, List, [], Option, Some, None, Result, Ok, Err, length, find}
use Rattle.std.specs.List.{All, AllZip}
use Rattle.std.specs.Str.{bytes_eq}
use Rattle.sp_plan.specs.declared.plan.Name.{Name}
use Rattle.sp_plan.specs.Bounds.{PredWithin}
use Rattle.sp_plan.specs.Comparable.{IsComparable}
use Rattle.sp_query.specs.declared.tree.Tree.{Tree}
use Rattle.sp_query.specs.declared.query.Ident.{Ident}
use Rattle.sp_query.specs.declared.query.Query.{Query}
use Rattle.sp_compile.specs.declared.fault.CompileFault.{CompileFault}
use Rattle.sp_compile.specs.declared.fault.CompileFault.TheVariants as f
use Rattle.sp_compile.specs.Answers.{scope_in, readable_in}
use Rattle.sp_compile.specs.Scopes.{pattern_names, name_place, PatternName}
use Rattle.sp_compile.specs.Sorts.{name_there}
use Rattle.sp_compile.specs.Checks.{defined_fault, Defines}
use Rattle.sp_compile.specs.Stands.{StandsForDefinition, StandForNames, is_consumed}

-- the definition among these of a name
abbrev pub defined_in : List (Ident × Tree) → List ℕ → Option (Ident × Tree)
defined_in defines text = find (λ define. bytes_eq define.0.text text) defines

-- the predicate of a name compares like with like, and reads names of earlier elements alone, none of them negated
abbrev pub ReadsBefore : Query → List (List ℕ) → PatternName → Name → Type 0
ReadsBefore query texts name planned = IsComparable (readable_in (scope_in query (Some name.element)) texts) planned.pred

-- A name of the plan stands for a name of the pattern, where there are no definitions but these.
pub record StandsSoFar (query : Query) (texts : List (List ℕ)) (defines : List (Ident × Tree)) (name : PatternName) (planned : Name) : Type 0 where
  pub text : planned.text ≡ name.name.text
  pub pred : StandsForDefinition query texts name (defined_in defines name.name.text) planned.pred
  pub consumed : planned.consumed ≡ is_consumed query.consume name
  pub reads : ReadsBefore query texts name planned

-- and so do all names
abbrev pub StandSoFar : Query → List (List ℕ) → List (Ident × Tree) → List PatternName → List Name → Type 0
StandSoFar query texts defines names planned = AllZip (StandsSoFar query texts defines) names planned

-- What is said of the name of a definition behind those of these names: which name of the pattern it is, or its fault.
abbrev pub PlaceAnswer : List PatternName → List (List ℕ) → Ident → Result ℕ CompileFault → Type 0
PlaceAnswer names before name (Ok place) = (place < length names) × (name_place names name.text ≡ Some place) × (defined_fault before name (name_there names (Some place)) ≡ None)
PlaceAnswer names before name (Err fault) = defined_fault before name (name_there names (name_place names name.text)) ≡ Some fault

-- The definitions have no fault, and these names of the plan stand for those of the pattern.
pub record AreNames (query : Query) (texts : List (List ℕ)) (planned : List Name) : Type 0 where
  pub checks : Defines query [] query.defines None
  pub stand : StandForNames query texts (pattern_names query) planned
  pub within : All (λ name. PredWithin name.pred) planned
  pub read : AllZip (ReadsBefore query texts) (pattern_names query) planned

-- what a fault says of the definitions
abbrev pub Misdefines : Query → CompileFault → Type 0
Misdefines query f.Memory = Unit {0}
Misdefines query fault = Defines query [] query.defines (Some fault)
