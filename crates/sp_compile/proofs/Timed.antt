-- The time's column of a query without a fault there.
use Rattle.std.proofs.Common.{◌≡◌, ℕ, zero, suc, Bool, true, false, List, [], ◌∷◌, map, Option, Some, None, refl, ap}
use Rattle.std.specs.Prelude.{slice_get}
use Rattle.sp_lex.specs.declared.token.Word.{Word}
use Rattle.sp_lex.specs.declared.token.Word.TheVariants as w
use Rattle.sp_plan.specs.declared.plan.Kind.TheVariants.{Int}
use Rattle.sp_plan.specs.Compiled.{IsTimeOf}
use Rattle.sp_query.specs.declared.query.Ident.{Ident}
use Rattle.sp_query.specs.declared.query.QueryColumn.{QueryColumn}
use Rattle.sp_compile.specs.Scopes.{column_place}
use Rattle.sp_compile.specs.Sorts.{column_there}
use Rattle.sp_compile.specs.Checks.{is_whole, time_column_fault, time_fault}
use Rattle.sp_compile.specs.Stands.{plan_column, kind_of, time_place}

-- a column of the query at a place is a column of the plan there
pub planned_there : (columns : List QueryColumn) (place : ℕ) (column : QueryColumn) → slice_get columns place ≡ Some column → slice_get (map plan_column columns) place ≡ Some (plan_column column)
planned_there [] place column is = absurd (cc is)
planned_there (c ∷ columns) zero column is = let same : c ≡ column = cc is in ap (λ x. Some (plan_column x)) same
planned_there (c ∷ columns) (suc place) column is = planned_there columns place column is

-- a kind of whole numbers
whole_kind : (kind : Word) (digits : ℕ) → is_whole kind ≡ true → kind_of kind digits ≡ Int
whole_kind w.Int digits is = refl
whole_kind _ digits is = absurd (cc is)

module _ (columns : List QueryColumn) (name : Ident) where
  -- the column that was found, at its place
  found_time : (place : ℕ) (found : Option QueryColumn) → slice_get columns place ≡ found → time_column_fault name found ≡ None → IsTimeOf (map plan_column columns) (Some place)
  found_time place None is none = absurd (cc none)
  found_time place (Some column) is none = (plan_column column, planned_there columns place column is, whole_kind column.kind column.digits (whole (is_whole column.kind) refl none))
    where
      whole : (b : Bool) → is_whole column.kind ≡ b → time_column_fault name (Some column) ≡ None → b ≡ true
      whole true at fine = refl
      whole false at fine = absurd (cc (at, fine))

  placed_time : (place : Option ℕ) → time_column_fault name (column_there columns place) ≡ None → IsTimeOf (map plan_column columns) place
  placed_time None none = absurd (cc none)
  placed_time (Some place) none = found_time place (slice_get columns place) refl none

-- a query without a fault of the time has a time of whole numbers, or none
pub time_is_whole : (columns : List QueryColumn) (time : Option Ident) → time_fault columns time ≡ None → IsTimeOf (map plan_column columns) (time_place columns time)
time_is_whole columns None none = tt
time_is_whole columns (Some name) none = placed_time columns name (column_place columns name.text) none
