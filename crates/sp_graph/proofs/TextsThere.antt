-- Where expressions of a column of texts are texts, what they give is a text of the first input.
use Rattle.std.proofs.Common.{◌≡◌, ℕ, zero, suc, ◌<◌, ◌≤◌, Bool, true, false, ◌==◌, ◌&&◌, List, [], ◌∷◌, length, map, Option, Some, None, refl, arith}
use Rattle.std.specs.Prelude.{IsSome, slice_get, unsigned_abs, filter, int_le, pos}
use Rattle.std.specs.List.{All, list_all, flat_map, filter_map, zip}
use Rattle.std.proofs.lemmas.Bool.Decides.{nat_tests}
use Rattle.std.proofs.lemmas.List.Elements.{All-nil, All-cons, All-head, All-tail, All-append, All-filter, All-map}
use Rattle.sp_base.specs.Limits.{number_limit}
use Rattle.sp_base.specs.Numbers.{is_among}
use Rattle.sp_plan.specs.declared.event.Event.{Event}
use Rattle.sp_plan.specs.declared.event.Value.{Value}
use Rattle.sp_plan.specs.declared.event.Value.TheVariants.{Number, Symbol}
use Rattle.sp_plan.specs.declared.plan.Column.{Column}
use Rattle.sp_plan.specs.declared.plan.Kind.{Kind}
use Rattle.sp_plan.specs.declared.plan.Kind.TheVariants.{Int, Dec, Text}
use Rattle.sp_plan.specs.declared.plan.Expr.{Expr, Literal, Word, Column as At, Earlier, Raise', Minus', Add', Sub', Mul'}
use Rattle.sp_plan.specs.declared.plan.Plan.{Plan}
use Rattle.sp_plan.specs.Comparable.{ColumnOfTexts, KindOfTexts, Readable}
use Rattle.sp_plan.specs.Compiled.{readable}
use Rattle.sp_plan.specs.Events.{fits, fits_column, fits_kind}
use Rattle.sp_plan.specs.Runs.{bound_names}
use Rattle.sp_plan.specs.Values.{BoundEvents, earlier_column, last_bound, units, value}
use Rattle.sp_graph.specs.Derived.{bound_of, bound_to, given_in, nothing, numbered_event, value_of}
use Rattle.sp_graph.specs.Laws.{AreSymbolsBelow, IsSymbolBelow, ReturnedTextsAreThere}
use Rattle.sp_graph.specs.Returns.{IsOfKind, ReadsBound}
use Rattle.sp_graph.proofs.LastBound.{last_holds, found_hold}

-- ---- a column of an event

text_value : (count : ℕ) (kind : Kind) (v : Value) → KindOfTexts kind → fits_kind kind v ≡ true → IsSymbolBelow count v → unsigned_abs (units (Some v)) < count
text_value count Int v is fit below = absurd is
text_value count (Dec digits) v is fit below = absurd is
text_value count Text (Number n) is fit below = absurd (cc fit)
text_value count Text (Symbol s) is fit below = below

both : (a b : Bool) → (a && b) ≡ true → (a ≡ true) × (b ≡ true)
both true b h = (refl, h)
both false b h = absurd (cc h)

text_in : (count : ℕ) (cs : List Column) (vs : List Value) (place : ℕ) → ColumnOfTexts (slice_get cs place) → length cs ≡ length vs → list_all fits_column (zip cs vs) ≡ true
    → All (IsSymbolBelow count) vs → unsigned_abs (units (slice_get vs place)) < count
text_in count [] vs place is sizes fit below = absurd is
text_in count (c ∷ cs) [] place is sizes fit below = absurd (omega arith)
text_in count (c ∷ cs) (v ∷ vs) zero is sizes fit below =
    text_value count c.kind v is (both (fits_kind c.kind v) (list_all fits_column (zip cs vs)) fit).0 (All-head (IsSymbolBelow count) v vs below)
text_in count (c ∷ cs) (v ∷ vs) (suc place) is sizes fit below =
    text_in count cs vs place is (omega arith) (both (fits_kind c.kind v) (list_all fits_column (zip cs vs)) fit).1 (All-tail (IsSymbolBelow count) v vs below)

first_two : (a b c d : Bool) → (a && b && c && d) ≡ true → (a ≡ true) × (b ≡ true)
first_two true true c d h = (refl, refl)
first_two true false c d h = absurd (cc h)
first_two false b c d h = absurd (cc h)

-- an event that fits, with texts that are there
record IsOf (q : Plan) (count : ℕ) (e : Event) : Type 0 where
  fit : fits q e ≡ true
  below : AreSymbolsBelow count e

event_text : (q : Plan) (count : ℕ) (e : Event) (place : ℕ) → IsOf q count e → ColumnOfTexts (slice_get q.schema.columns place) → unsigned_abs (units (slice_get e.values place)) < count
event_text q count e place of is =
    let parts = first_two (length q.schema.columns == length e.values) (list_all fits_column (zip q.schema.columns e.values)) (int_le (pos 0) e.time) (int_le e.time (pos number_limit)) of.fit in
    let sizes : length q.schema.columns ≡ length e.values = grind (arith, nat_tests, parts.0) in
    text_in count q.schema.columns e.values place is sizes parts.1 of.below

-- ---- the events that a match binds

abbrev Bound : Plan → ℕ → ℕ × Event → Type 0
Bound q count pair = IsOf q count pair.1

all_of : (q : Plan) (count : ℕ) (events : List Event) → All (λ e. fits q e ≡ true) events → All (AreSymbolsBelow count) events → All (IsOf q count) events
all_of q count [] fit below = All-nil (IsOf q count)
all_of q count (e ∷ events) fit below =
    All-cons (IsOf q count) e events (record { fit = All-head (λ e. fits q e ≡ true) e events fit; below = All-head (AreSymbolsBelow count) e events below })
    (all_of q count events (All-tail (λ e. fits q e ≡ true) e events fit) (All-tail (AreSymbolsBelow count) e events below))

all_bound : (q : Plan) (count : ℕ) (events : List Event) → All (IsOf q count) events → (bound : List (ℕ × List ℕ)) → All (Bound q count) (flat_map (bound_to events) bound)
all_bound q count events all [] = All-nil (Bound q count)
all_bound q count events all (pair ∷ bound) =
    let own = filter_map (numbered_event events) pair.1 in
    All-append (Bound q count) (bound_to events pair) (flat_map (bound_to events) bound)
    (All-map (Bound q count) (λ (e : Event). (pair.0, e)) own (found_hold (IsOf q count) events pair.1 all))
    (all_bound q count events all bound)

-- what stands in a column of the last event of a name
earlier_text : (q : Plan) (count : ℕ) (o : Option (ℕ × Event)) (place : ℕ) → IsSome o → ((pair : ℕ × Event) → o ≡ Some pair → Bound q count pair)
    → ColumnOfTexts (slice_get q.schema.columns place) → unsigned_abs (earlier_column o place) < count
earlier_text q count None place some all is = absurd (cc some)
earlier_text q count (Some pair) place some all is = event_text q count pair.1 place (all pair refl) is

-- ---- the values

module _ (q : Plan) (count : ℕ) (b : BoundEvents) (all : All (Bound q count) b) (texts : length q.texts ≤ count)
    (named : (name : ℕ) → is_among (bound_names q) name ≡ true → IsSome (last_bound name b)) where
  abbrev r : Readable
  r = readable q (length q.names)

  one_below : (kind : Kind) (expr : Expr) → IsOfKind r kind expr → ReadsBound expr → IsSymbolBelow count (value_of kind (value expr nothing b))
  one_below Int expr is reads = tt
  one_below (Dec digits) expr is reads = tt
  one_below Text (Literal n) is reads = absurd is
  one_below Text (Word s) is reads = omega arith
  one_below Text (At c) is reads = absurd reads
  one_below Text (Earlier name place) is reads =
      earlier_text q count (last_bound name b) place (named name is.0.1)
      (λ pair last. last_holds (Bound q count) None (filter (λ pair. pair.0 == name) b) pair (λ y none. absurd (cc none)) (All-filter (λ pair. pair.0 == name) (Bound q count) b all) last) is.1
  one_below Text (Raise' by p inner) is reads = absurd is
  one_below Text (Minus' p inner) is reads = absurd is
  one_below Text (Add' p left s right) is reads = absurd is
  one_below Text (Sub' p left s right) is reads = absurd is
  one_below Text (Mul' p left s right) is reads = absurd is

  all_below : (cs : List Column) (rs : List Expr) → All (λ pair. IsOfKind r pair.0.kind pair.1) (zip cs rs) → All ReadsBound rs → All (IsSymbolBelow count) (map (given_in b) (zip cs rs))
  all_below [] rs kinds reads = All-nil (IsSymbolBelow count)
  all_below (c ∷ cs) [] kinds reads = All-nil (IsSymbolBelow count)
  all_below (c ∷ cs) (x ∷ rs) kinds reads =
      All-cons (IsSymbolBelow count) (given_in b (c, x)) (map (given_in b) (zip cs rs))
      (one_below c.kind x (All-head (λ (pair : Column × Expr). IsOfKind r pair.0.kind pair.1) (c, x) (zip cs rs) kinds) (All-head ReadsBound x rs reads))
      (all_below cs rs (All-tail (λ (pair : Column × Expr). IsOfKind r pair.0.kind pair.1) (c, x) (zip cs rs) kinds) (All-tail ReadsBound x rs reads))

pub returned_texts : ReturnedTextsAreThere
returned_texts first second returns events count m are fit below texts named =
    all_below first count (bound_of events m) (all_bound first count events (all_of first count events fit below) m.bound) texts named second.schema.columns returns are.kinds are.bound
