-- Lists of events that fit a plan and never go back, one event more at a time.
use Rattle.std.proofs.Common.{◌≡◌, ℕ, ℤ, pos, negsuc, ◌<◌, ◌≤◌, ◌≤ℤ◌, true, ◌&&◌, List, [], ◌∷◌, ◌++◌, length, Option, Some, None, refl, sym, ap, ◌∙◌, subst, arith}
use Rattle.std.specs.Prelude.{slice_get, int_le, unsigned_abs, ◌==◌}
use Rattle.std.specs.List.{All, last_or, list_all, zip}
use Rattle.std.proofs.lemmas.Bool.{and_parts}
use Rattle.std.proofs.lemmas.Bool.Decides.{nat_tests}
use Rattle.std.proofs.lemmas.Int.{ints}
use Rattle.std.proofs.lemmas.Option.{slice_get_within}
use Rattle.std.proofs.lemmas.List.Elements.{All-nil, All-cons}
use Rattle.sp_base.specs.Limits.{number_limit}
use Rattle.sp_plan.specs.declared.event.Event.{Event}
use Rattle.sp_plan.specs.declared.event.Value.{Value}
use Rattle.sp_plan.specs.declared.event.Value.TheVariants.{Number, Symbol}
use Rattle.sp_plan.specs.declared.plan.Column.{Column}
use Rattle.sp_plan.specs.declared.plan.Kind.{Kind}
use Rattle.sp_plan.specs.declared.plan.Kind.TheVariants.{Int, Dec, Text}
use Rattle.sp_plan.specs.declared.plan.Plan.{Plan}
use Rattle.sp_plan.specs.Bounds.{IsSmall, SmallValue}
use Rattle.sp_plan.specs.Events.{fits, fits_kind, fits_column}
use Rattle.sp_plan.specs.WindowNumbers.{Good}
use Rattle.sp_window.specs.Times.{stamp, stamp_or_zero, last_stamp}
use Rattle.sp_window.proofs.Lists.{last_or-push, last_at, get_push, get_front, get_there, all_at, all_front}

-- what an event that fits keeps of its time
pub record InTime (e : Event) : Type 0 where
  pub is : e.time ≡ pos (stamp e)
  pub late : stamp e ≤ number_limit

-- a time that passes both tests
time_within : (t : ℤ) → int_le (pos 0) t ≡ true → int_le t (pos number_limit) ≡ true → (t ≡ pos (unsigned_abs t)) × (unsigned_abs t ≤ number_limit)
time_within (pos n) low high = (refl, grind (arith, nat_tests))
time_within (negsuc n) low high = cc

-- the parts of a test by which an event fits
fits_parts : (q : Plan) (e : Event) → fits q e ≡ true → ((length q.schema.columns == length e.values) ≡ true) × (list_all fits_column (zip q.schema.columns e.values) ≡ true) × (int_le (pos 0) e.time ≡ true) × (int_le e.time (pos number_limit) ≡ true)
fits_parts q e is =
    let outer = and_parts ((length q.schema.columns == length e.values) && list_all fits_column (zip q.schema.columns e.values) && int_le (pos 0) e.time) (int_le e.time (pos number_limit)) is in
    let middle = and_parts ((length q.schema.columns == length e.values) && list_all fits_column (zip q.schema.columns e.values)) (int_le (pos 0) e.time) outer.0 in
    let inner = and_parts (length q.schema.columns == length e.values) (list_all fits_column (zip q.schema.columns e.values)) middle.0 in
    (inner.0, inner.1, middle.1, outer.1)

-- an event that fits is in time
pub in_time : (q : Plan) (e : Event) → fits q e ≡ true → InTime e
in_time q e is =
    let parts = fits_parts q e is in
    let both = time_within e.time parts.2 parts.3 in
    record { is = both.0; late = both.1 }

-- a value of its kind is small
small_value : (k : Kind) (v : Value) → fits_kind k v ≡ true → SmallValue v
small_value Int (Number n) is = grind (arith, nat_tests)
small_value (Dec p) (Number n) is = grind (arith, nat_tests)
small_value Text (Number n) is = cc
small_value k (Symbol s) is = tt

-- values that stand in their columns are small
small_values : (cs : List Column) (vs : List Value) → (length cs == length vs) ≡ true → list_all fits_column (zip cs vs) ≡ true → All SmallValue vs
small_values cs [] same all = All-nil SmallValue
small_values [] (v ∷ vs) same all = absurd (grind (arith, nat_tests))
small_values (c ∷ cs) (v ∷ vs) same all =
    let parts = and_parts (fits_column (c, v)) (list_all fits_column (zip cs vs)) all in
    All-cons SmallValue v vs (small_value c.kind v parts.0) (small_values cs vs (grind (arith, nat_tests)) parts.1)

-- the numbers of an event that fits are small
pub fits_small : (q : Plan) (e : Event) → fits q e ≡ true → IsSmall e
fits_small q e is = let parts = fits_parts q e is in small_values q.schema.columns e.values parts.0 parts.1

-- what one event more behind good events keeps
pub record Fed (q : Plan) (events : List Event) (e : Event) : Type 0 where
  pub before : Good q events
  pub fits_it : fits q e ≡ true
  pub rises : last_stamp events ≤ stamp e

-- no events are good
pub good_none : (q : Plan) → Good q []
good_none q = (All-nil (λ e. fits q e ≡ true), λ i j x y le at there. cc)

-- times in order, as numbers
stamps_rise : (a b : ℕ) (s t : ℤ) → s ≡ pos a → t ≡ pos b → s ≤ℤ t → a ≤ b
stamps_rise a b s t p q le = omega (arith, ints)

-- good events without the last one
pub good_less : (q : Plan) (events : List Event) (e : Event) → Good q (events ++ e ∷ []) → Fed q events e
good_less q events e good = record {
  before = (all_front (λ x. fits q x ≡ true) events (e ∷ []) good.0, λ i j x y le at there. good.1 i j x y le (get_front events (e ∷ []) i (slice_get_within events i x at) ∙ at) (get_front events (e ∷ []) j (slice_get_within events j y there) ∙ there));
  fits_it = fits_e;
  rises = by events refl;
}
  where
    fits_e : fits q e ≡ true
    fits_e = all_at (λ x. fits q x ≡ true) (events ++ e ∷ []) (length events) e good.0 (get_push events e)

    by : (xs : List Event) → xs ≡ events → last_stamp events ≤ stamp e
    by [] is = subst (λ (l : List Event). last_stamp l ≤ stamp e) is (omega arith)
    by (x ∷ xs) is = subst (λ (l : List Event). last_stamp l ≤ stamp e) is (last (get_there (x ∷ xs) (length xs) (omega arith)))
      where
        last : (y : Event) × (slice_get (x ∷ xs) (length xs) ≡ Some y) → stamp_or_zero (last_or None (x ∷ xs)) ≤ stamp e
        last (y, there) =
            let at : slice_get events (length xs) ≡ Some y = ap (λ (l : List Event). slice_get l (length xs)) (sym is) ∙ there in
            let within : length xs < length events = slice_get_within events (length xs) y at in
            let front : slice_get (events ++ e ∷ []) (length xs) ≡ Some y = get_front events (e ∷ []) (length xs) within ∙ at in
            let le = good.1 (length xs) (length events) y e (omega arith) front (get_push events e) in
            let fits_y : fits q y ≡ true = all_at (λ x. fits q x ≡ true) (events ++ e ∷ []) (length xs) y good.0 front in
            let rise : stamp y ≤ stamp e = stamps_rise (stamp y) (stamp e) y.time e.time (in_time q y fits_y).is (in_time q e fits_e).is le in
            subst (λ (o : Option Event). stamp_or_zero o ≤ stamp e) (sym (last_at x xs None ∙ there)) rise

-- the time of the event behind a list
pub last_stamp_push : (events : List Event) (e : Event) → last_stamp (events ++ e ∷ []) ≡ stamp e
last_stamp_push events e = ap stamp_or_zero (last_or-push None events e)

-- a time no earlier than a number, as a number
abs_from : (a : ℕ) (t : ℤ) → pos a ≤ℤ t → a ≤ unsigned_abs t
abs_from a t le = omega (arith, ints)

-- an event no earlier than a time
pub stamp_from : (a : ℕ) (e : Event) → pos a ≤ℤ e.time → a ≤ stamp e
stamp_from a e le = abs_from a e.time le
