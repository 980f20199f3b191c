-- What is known of a column that an expression reads.
use Rattle.std.proofs.Common.{◌≡◌, ℕ, ℤ, ◌<◌, ◌≤◌, Bool, true, false, List, Some, Ok, Err, slice_get, refl, sym, ◌∙◌, ap, subst, arith}
use Rattle.std.specs.Prelude.{if◌then◌else◌}
use Rattle.sp_base.specs.Limits.{number_limit}
use Rattle.sp_base.specs.Numbers.{is_among}
use Rattle.sp_lex.specs.declared.token.Span.{Span}
use Rattle.sp_lex.specs.declared.token.Word.{Word}
use Rattle.sp_lex.specs.declared.token.Word.TheVariants as w
use Rattle.sp_plan.specs.declared.event.Event.{Event}
use Rattle.sp_plan.specs.declared.plan.Expr.{Expr}
use Rattle.sp_plan.specs.declared.plan.Expr as e
use Rattle.sp_plan.specs.Comparable.{Readable, MayRead, ColumnOfScale, ColumnOfTexts, IsText, HasScale}
use Rattle.sp_plan.specs.Bounds.{bound}
use Rattle.sp_plan.specs.Values.{BoundEvents, earlier_column, last_bound}
use Rattle.sp_query.specs.declared.query.QueryColumn.{QueryColumn}
use Rattle.sp_compile.specs.declared.fault.CompileFault.TheVariants as f
use Rattle.sp_compile.specs.Answers.{HasSort, bound_names, datum, IsBounded}
use Rattle.sp_compile.specs.Parts.{IsSound, Reads, column_datum, placed_datum, bound_datum, earlier_datum}
use Rattle.sp_compile.specs.Scopes.{Scope, column_place, name_place, binding_from, PatternName}
use Rattle.sp_compile.specs.Sorts.{sort_of, column_sort, name_there, column_there, is_earlier, earlier_there, earlier_in, earlier_sort}
use Rattle.sp_compile.specs.Stands.{kind_of, plan_column}
use Rattle.sp_compile.specs.Meaning.{Datum, datum_of}
use Rattle.sp_compile.proofs.EarlierNames.{is_before}
use Rattle.sp_compile.proofs.Timed.{planned_there}

-- ---- columns

-- what reads a column of the plan is of the column's sort
by_kind : (r : Readable) (expr : Expr) (place : ℕ) (text : List ℕ) (kind : Word) (digits : ℕ) → slice_get r.columns place ≡ Some (record { name = text; kind = kind_of kind digits })
    → (ColumnOfTexts (slice_get r.columns place) → IsText r expr) → ((scale : ℕ) → ColumnOfScale scale (slice_get r.columns place) → HasScale r expr scale) → HasSort r expr (sort_of kind digits)
by_kind r expr place text w.Int digits there texts numbers = numbers 0 (subst (ColumnOfScale 0) (sym there) refl)
by_kind r expr place text w.Dec digits there texts numbers = numbers digits (subst (ColumnOfScale digits) (sym there) refl)
by_kind r expr place text _ digits there texts numbers = texts (subst ColumnOfTexts (sym there) tt)

module _ (scope : Scope) (r : Readable) (reads : Reads scope r) (place : ℕ) (column : QueryColumn) (is : slice_get scope.columns place ≡ Some column) where
  there : slice_get r.columns place ≡ Some (plan_column column)
  there = ap (λ columns. slice_get columns place) reads.0 ∙ planned_there scope.columns place column is

  pub earlier_sorted : (number : ℕ) → number < bound_names scope.names scope.here → is_among (binding_from 0 scope.names) number ≡ true → HasSort r (e.Earlier number place) (column_sort column)
  earlier_sorted number before binds =
      let bound : MayRead r number = (subst (λ (n : ℕ). number < n) (sym reads.1) before, ap (λ (l : List ℕ). is_among l number) reads.2 ∙ binds) in
      by_kind r (e.Earlier number place) place column.name.text column.kind column.digits there (λ h. (bound, h)) (λ scale h. (bound, h))

-- ---- a column of an event that is bound earlier

module _ (scope : Scope) (name text : List ℕ) (here number place : ℕ) (found : PatternName) (column : QueryColumn) (is : scope.here ≡ Some here)
    (named : name_place scope.names name ≡ Some number) (placed : column_place scope.columns text ≡ Some place) (column_is : slice_get scope.columns place ≡ Some column) where
  pub earlier_verdict : (span : Span) → slice_get scope.names number ≡ Some found → found.negated ≡ false → found.element < here → earlier_sort scope span name text ≡ Ok (column_sort column)
  earlier_verdict span found_is binds less =
      let columns = column_there scope.columns (column_place scope.columns text) in
      ap (λ o. earlier_in o scope span name text) is
      ∙ ap (λ o. earlier_there span (Some here) (name_there scope.names o) columns) named
      ∙ ap (λ o. earlier_there span (Some here) o columns) found_is
      ∙ ap (λ o. earlier_there span (Some here) (Some found) (column_there scope.columns o)) placed
      ∙ ap (λ o. earlier_there span (Some here) (Some found) o) column_is
      ∙ ap (λ (b : Bool). if b then Err (f.NeverBound span) else if is_earlier (Some here) (Some found) then Ok (column_sort column) else Err (f.LateReference span)) binds
      ∙ ap (λ (b : Bool). if b then Ok (column_sort column) else Err (f.LateReference span)) (is_before found.element here less)

  pub earlier_comes : (event : Event) (bound : BoundEvents) → earlier_datum scope name text event bound ≡ Some (datum (column_sort column) (earlier_column (last_bound number bound) place))
  earlier_comes event bound =
      let stands = λ (at : ℕ). earlier_column (last_bound number bound) at in
      ap (λ o. bound_datum scope.columns o (column_place scope.columns text) bound) named
      ∙ ap (λ o. placed_datum scope.columns o stands) placed
      ∙ ap (λ o. column_datum o (stands place)) column_is
      ∙ ap (λ (d : Datum). Some d) (datum_by_kind column.kind column.digits (stands place))
    where
      datum_by_kind : (kind : Word) (digits : ℕ) (value : ℤ) → datum_of kind digits value ≡ datum (sort_of kind digits) value
      datum_by_kind w.Int digits value = refl
      datum_by_kind w.Dec digits value = refl
      datum_by_kind _ digits value = refl

-- a column's numbers are within the bound of its sort
bounded_by_kind : (expr : Expr) (kind : Word) (digits : ℕ) → bound expr ≡ number_limit → (kind ≡ w.Dec → digits ≤ 6) → IsBounded expr (sort_of kind digits)
bounded_by_kind expr w.Int digits is few = (is, omega arith)
bounded_by_kind expr w.Dec digits is few = let less : digits ≤ 6 = few refl in (is, omega arith)
bounded_by_kind expr _ digits is few = tt

pub earlier_sound : (number place : ℕ) (column : QueryColumn) → (column.kind ≡ w.Dec → column.digits ≤ 6) → IsSound (e.Earlier number place, column_sort column)
earlier_sound number place column few = record { bounded = bounded_by_kind (e.Earlier number place) column.kind column.digits refl few; within = tt }
