-- What holds while the windows are fed.
use Rattle.std.proofs.Common.{◌≡◌, ℕ, zero, suc, ◌+◌, ◌<◌, ◌≤◌, ℤ, pos, ◌≤ℤ◌, Bool, false, true, ◌&&◌, ◌==◌, List, [], ◌∷◌, ◌++◌, length, get_or, take, Some, refl, sym, ◌∙◌, ap, subst, arith}
use Rattle.std.specs.Prelude.{slice_get, int_le}
use Rattle.std.specs.List.{list_all, zip}
use Rattle.std.proofs.lemmas.Int.{ints}
use Rattle.std.proofs.lemmas.List.{take_more}
use Rattle.sp_base.specs.Limits.{number_limit}
use Rattle.sp_plan.specs.declared.event.Event.{Event}
use Rattle.sp_plan.specs.declared.plan.Plan.{Plan}
use Rattle.sp_plan.specs.Events.{AllFit, NeverGoesBack, fits, fits_column}
use Rattle.sp_window.specs.Standing.{Kept, Stands}

-- So many events were fed, and none that is left is before the last one.
pub record Fed (w : Kept) (events : List Event) (i : ℕ) (q : Plan) : Type 0 where
  pub stands : Stands w (take i events) false
  pub plan_is : w.plan ≡ q
  pub fed_is : w.fed ≡ i
  pub more : w.ended ≡ false
  pub behind : (j : ℕ) (e : Event) → i ≤ j → slice_get events j ≡ Some e → pos w.time ≤ℤ e.time

third : (a b c d : Bool) → (a && b && c && d) ≡ true → c ≡ true
third true true true d is = refl
third true true false d is = absurd (cc is)
third true false c d is = absurd (cc is)
third false b c d is = absurd (cc is)

-- the time of an event that fits is 0 or later
not_before : (q : Plan) (e : Event) → fits q e ≡ true → pos 0 ≤ℤ e.time
not_before q e fit =
    let low : int_le (pos 0) e.time ≡ true = third (length q.schema.columns == length e.values) (list_all fits_column (zip q.schema.columns e.values)) (int_le (pos 0) e.time) (int_le e.time (pos number_limit)) fit in
    grind (arith, ints)

-- an item is there at its place
there : (events : List Event) (i : ℕ) (d : Event) → i < length events → slice_get events i ≡ Some (get_or events i d)
there [] i d within = absurd (omega arith)
there (e ∷ events) zero d within = refl
there (e ∷ events) (suc i) d within = there events i d (omega arith)

-- what stands at a place is one of the items
item_is : (P : Event → Type 0) (events : List Event) (j : ℕ) (e : Event) → ((i : ℕ) (d : Event) → i < length events → P (get_or events i d)) → slice_get events j ≡ Some e → P e
item_is P [] j e all is = absurd (cc is)
item_is P (x ∷ events) zero e all is = let same : x ≡ e = cc is in subst P same (all 0 e (omega arith))
item_is P (x ∷ events) (suc j) e all is = item_is P events j e (λ i d inside. all (suc i) d (omega (arith, inside))) is

-- at first nothing was fed
pub fed_none : (w : Kept) (events : List Event) (q : Plan) → Stands w [] false → w.plan ≡ q → AllFit q events → Fed w events 0 q
fed_none w events q stands plan fit = record {
  stands = stands;
  plan_is = plan;
  fed_is = stands.fed_is;
  more = stands.ended_is;
  behind = λ j e le is. subst (λ (t : ℕ). pos t ≤ℤ e.time) (sym stands.time_is) (not_before q e (item_is (λ (x : Event). fits q x ≡ true) events j e fit is));
}

-- one event more
pub fed_more : (w w' : Kept) (events : List Event) (i : ℕ) (q : Plan) (d event : Event) → Fed w events i q → i < length events → event ≡ get_or events i d → NeverGoesBack events
    → ((before : List Event) → Stands w before false → Stands w' (before ++ event ∷ []) false) → w'.fed ≡ w.fed + 1 → pos w'.time ≡ event.time → w'.plan ≡ w.plan → w'.ended ≡ false → Fed w' events (i + 1) q
fed_more w w' events i q d event fed within is ordered stands count time plan more = record {
  stands = subst (λ (l : List Event). Stands w' l false) (ap (λ (e : Event). take i events ++ e ∷ []) is ∙ sym (take_more events i d within)) (stands (take i events) fed.stands);
  plan_is = plan ∙ fed.plan_is;
  fed_is = omega (arith, count, fed.fed_is);
  more = more;
  behind = λ j e le at. subst (λ (t : ℤ). t ≤ℤ e.time) (sym time) (ordered i j event e (omega arith) (there events i d within ∙ ap (λ (x : Event). Some x) (sym is)) at);
}

-- the event at hand is not before the last one
pub in_order : (w : Kept) (events : List Event) (i : ℕ) (q : Plan) (d event : Event) → Fed w events i q → i < length events → event ≡ get_or events i d → pos w.time ≤ℤ event.time
in_order w events i q d event fed within is = fed.behind i event (omega arith) (there events i d within ∙ ap (λ (x : Event). Some x) (sym is))
