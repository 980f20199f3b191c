-- Derived events fit the second query, aren't too many, and are all at time 0.
use Rattle.std.proofs.Common.{◌≡◌, ◌≢◌, inl, inr, ℕ, suc, ℤ, ◌≤◌, Bool, true, false, ◌==◌, ◌&&◌, ◌||◌, List, [], ◌∷◌, ◌++◌, length, pos, refl, ◌∙◌, ap, subst, append_assoc, arith}
use Rattle.std.specs.Prelude.{is_some, nat_lt, nat_le, unsigned_abs}
use Rattle.std.specs.List.{All, fold, list_all, list_any, zip}
use Rattle.std.proofs.lemmas.Bool.{cases_Bool}
use Rattle.std.proofs.lemmas.Bool.Decides.{nat_tests}
use Rattle.std.proofs.lemmas.Int.{ints}
use Rattle.std.proofs.lemmas.List.{length-append}
use Rattle.std.proofs.lemmas.List.Elements.{All-nil, All-cons, All-append, All-get_or}
use Rattle.std.proofs.lemmas.Option.{slice_get_within, get_or_from_slice_get}
use Rattle.sp_base.specs.Limits.{event_limit, number_limit}
use Rattle.sp_plan.specs.declared.event.Event.{Event}
use Rattle.sp_plan.specs.declared.event.Value.{Value}
use Rattle.sp_plan.specs.declared.plan.Column.{Column}
use Rattle.sp_plan.specs.declared.plan.Expr.{Expr}
use Rattle.sp_plan.specs.declared.plan.Kind.{Kind}
use Rattle.sp_plan.specs.declared.plan.Kind.TheVariants.{Int, Dec, Text}
use Rattle.sp_plan.specs.declared.plan.Plan.{Plan}
use Rattle.sp_plan.specs.declared.found.Match.{Match}
use Rattle.sp_plan.specs.Events.{AllFit, NeverGoesBack, fits, fits_column, fits_kind}
use Rattle.sp_plan.specs.Values.{BoundEvents, value}
use Rattle.sp_graph.specs.Derived.{Deriving, bound_of, derived, event_of, given, given_in, is_past, nothing, placed, renumbered, start, value_of, with_match, with_value}

-- ---- one event

first_false : (a b : Bool) → (a || b) ≡ false → (a ≡ false) × (b ≡ false)
first_false false b h = (refl, h)
first_false true b h = absurd (cc h)

small_number : (n : ℤ) → nat_lt number_limit (unsigned_abs n) ≡ false → nat_le (unsigned_abs n) number_limit ≡ true
small_number n h = grind (arith, nat_tests)

-- a value that is not past its limit fits its column
fits_placed : (texts known : List (List ℕ)) (kind : Kind) (n : ℤ) → is_past (value_of kind n) ≡ false → fits_kind kind (placed texts known (value_of kind n)).0 ≡ true
fits_placed texts known Int n within = small_number n within
fits_placed texts known (Dec digits) n within = small_number n within
fits_placed texts known Text n within = refl

-- the values behind these fit the columns, one for each
record Fitting (columns : List Column) (before after : List Value) : Type 0 where
  own : List Value
  is : after ≡ before ++ own
  size : length columns ≡ length own
  fit : list_all fits_column (zip columns own) ≡ true

append_none : (xs : List Value) → xs ≡ xs ++ []
append_none [] = refl
append_none (x ∷ xs) = ap (λ (l : List Value). x ∷ l) (append_none xs)

values_fit : (texts : List (List ℕ)) (cs : List Column) (rs : List Expr) (b : BoundEvents) (s : List Value × List (List ℕ)) → length rs ≡ length cs
    → list_any is_past (given cs rs b) ≡ false → Fitting cs s.0 (fold (with_value texts) s (given cs rs b)).0
values_fit texts [] rs b s sizes within = record { own = []; is = append_none s.0; size = refl; fit = refl }
values_fit texts (c ∷ cs) [] b s sizes within = absurd (omega arith)
values_fit texts (c ∷ cs) (r ∷ rs) b s sizes within =
    let own = given_in b (c, r) in
    let parts = first_false (is_past own) (list_any is_past (given cs rs b)) within in
    let put = (placed texts s.1 own).0 in
    let rest = values_fit texts cs rs b (with_value texts s own) (omega arith) parts.1 in
    let here : fits_kind c.kind put ≡ true = fits_placed texts s.1 c.kind (value r nothing b) parts.0 in
    record {
      own = put ∷ rest.own;
      is = rest.is ∙ append_assoc s.0 (put ∷ []) rest.own;
      size = ap suc rest.size;
      fit = rw here rest.fit;
    }

all_true : (a b : Bool) → a ≡ true → b ≡ true → (a && b && true && true) ≡ true
all_true a b h g = rw (h, g) refl

-- the event of a match without a value past its limit fits
event_fits : (second : Plan) (returns : List Expr) (texts known : List (List ℕ)) (b : BoundEvents) → length returns ≡ length second.schema.columns
    → list_any is_past (given second.schema.columns returns b) ≡ false → fits second (event_of texts known (given second.schema.columns returns b)).0 ≡ true
event_fits second returns texts known b sizes within =
    let cs = second.schema.columns in
    let fitting = values_fit texts cs returns b ([], known) sizes within in
    let values = (renumbered texts known (given cs returns b)).0 in
    let size : (length cs == length values) ≡ true = grind (arith, nat_tests, fitting.size, ap (λ (l : List Value). length l) fitting.is) in
    let fit : list_all fits_column (zip cs values) ≡ true = ap (λ (l : List Value). list_all fits_column (zip cs l)) fitting.is ∙ fitting.fit in
    all_true (length cs == length values) (list_all fits_column (zip cs values)) size fit

-- ---- all events

-- The events fit, aren't too many, and are at time 0.
pub record AreGood (second : Plan) (events : List Event) : Type 0 where
  pub fit : AllFit second events
  pub few : length events ≤ event_limit
  pub times : All (λ e. e.time ≡ pos 0) events

abbrev Fits : Plan → Event → Type 0
Fits second e = fits second e ≡ true

abbrev AtNone : Event → Type 0
AtNone e = e.time ≡ pos 0

one_good : (second : Plan) (events : List Event) (e : Event) → AreGood second events → (length events == event_limit) ≡ false → fits second e ≡ true → e.time ≡ pos 0
    → AreGood second (events ++ e ∷ [])
one_good second events e good room fit time = record {
  fit = All-append (Fits second) events (e ∷ []) good.fit (All-cons (Fits second) e [] fit (All-nil (Fits second)));
  few =
      let other : length events ≢ event_limit = grind (arith, nat_tests, room) in
      omega (arith, length-append events (e ∷ []), good.few, other);
  times = All-append AtNone events (e ∷ []) good.times (All-cons AtNone e [] time (All-nil AtNone));
}

module _ (returns : List Expr) (events : List Event) (texts : List (List ℕ)) (second : Plan) (sizes : length returns ≡ length second.schema.columns) where
  match_good : (d : Deriving) (m : Match) → AreGood second d.events → AreGood second (with_match returns events texts second d m).events
  match_good d m good = elim (cases_Bool (is_some d.limit)) [
    | inl stopped ↦ rw stopped good
    | inr on ↦ rw on (elim (cases_Bool (list_any is_past (given second.schema.columns returns (bound_of events m)))) [
      | inl past ↦ rw past good
      | inr within ↦ rw within (elim (cases_Bool (length d.events == event_limit)) [
        | inl full ↦ rw full good
        | inr room ↦ rw room (one_good second d.events (event_of texts d.texts (given second.schema.columns returns (bound_of events m))).0 good room
            (event_fits second returns texts d.texts (bound_of events m) sizes within) refl)
      ])
    ])
  ]

  all_good : (d : Deriving) (ms : List Match) → AreGood second d.events → AreGood second (fold (with_match returns events texts second) d ms).events
  all_good d [] good = good
  all_good d (m ∷ ms) good = all_good (with_match returns events texts second d m) ms (match_good d m good)

  pub derived_good : (ms : List Match) → AreGood second (derived returns events texts second ms).events
  derived_good ms = all_good (start second) ms (record { fit = All-nil (Fits second); few = omega arith; times = All-nil AtNone })

-- events at one time never go back
pub never_back : (events : List Event) → All (λ e. e.time ≡ pos 0) events → NeverGoesBack events
never_back events times i j x y before first other =
    let one : x.time ≡ pos 0 = subst AtNone (get_or_from_slice_get events i x x first) (All-get_or AtNone events i x (slice_get_within events i x first) times) in
    let two : y.time ≡ pos 0 = subst AtNone (get_or_from_slice_get events j y y other) (All-get_or AtNone events j y (slice_get_within events j y other) times) in
    rw (one, two) (omega (arith, ints))
