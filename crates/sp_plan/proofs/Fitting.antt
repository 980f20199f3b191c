-- Events that fit a plan are small.
use Rattle.std.proofs.Common.{◌≡◌, arith, Bool, true, false, ◌&&◌, List, [], ◌∷◌, length, ◌==◌}
use Rattle.std.specs.Prelude.{pos, int_le}
use Rattle.std.specs.List.{All, list_all, zip}
use Rattle.std.proofs.lemmas.Bool.Decides.{nat_tests}
use Rattle.std.proofs.lemmas.List.Elements.{All-nil, All-cons}
use Rattle.sp_base.specs.Limits.{number_limit}
use Rattle.sp_plan.specs.declared.event.Value.{Value}
use Rattle.sp_plan.specs.declared.event.Value.TheVariants.{Number, Symbol}
use Rattle.sp_plan.specs.declared.plan.Column.{Column}
use Rattle.sp_plan.specs.declared.plan.Kind.{Kind}
use Rattle.sp_plan.specs.declared.plan.Kind.TheVariants.{Int, Dec, Text}
use Rattle.sp_plan.specs.Bounds.{SmallValue}
use Rattle.sp_plan.specs.Events.{fits_kind, fits_column}
use Rattle.sp_plan.specs.Laws.{FittingEventsAreSmall}

small_of_kind : (k : Kind) (v : Value) → fits_kind k v ≡ true → SmallValue v
small_of_kind Int (Number n) h = grind (arith, nat_tests)
small_of_kind (Dec p) (Number n) h = grind (arith, nat_tests)
small_of_kind Text (Number n) h = absurd cc
small_of_kind k (Symbol s) h = tt

both : (a b : Bool) → (a && b) ≡ true → (a ≡ true) × (b ≡ true)
both true b h = (cc, h)
both false b h = absurd cc

first_two : (a b c d : Bool) → (a && b && c && d) ≡ true → (a ≡ true) × (b ≡ true)
first_two true true c d h = (cc, cc)
first_two true false c d h = absurd cc
first_two false b c d h = absurd cc

small_columns : (cs : List Column) (vs : List Value) → length cs ≡ length vs → list_all fits_column (zip cs vs) ≡ true → All SmallValue vs
small_columns [] [] e h = All-nil SmallValue
small_columns [] (v ∷ vs) e h = absurd (omega arith)
small_columns (c ∷ cs) [] e h = absurd (omega arith)
small_columns (c ∷ cs) (v ∷ vs) e h =
    let parts = both (fits_kind c.kind v) (list_all fits_column (zip cs vs)) h in
    All-cons SmallValue v vs (small_of_kind c.kind v parts.0) (small_columns cs vs (omega arith) parts.1)

pub fitting_small : FittingEventsAreSmall
fitting_small q e h =
    let parts = first_two (length q.schema.columns == length e.values) (list_all fits_column (zip q.schema.columns e.values)) (int_le (pos 0) e.time) (int_le e.time (pos number_limit)) h in
    let size : length q.schema.columns ≡ length e.values = grind (arith, nat_tests, parts.0) in
    small_columns q.schema.columns e.values size parts.1
