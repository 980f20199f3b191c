-- Every event of a reading fits the plan, and their times never go back.
use Rattle.std.proofs.Common.{◌≡◌, ◌⊎◌, inl, inr, ◌==◌, ℕ, zero, suc, ℤ, ◌<◌, ◌≤ℤ◌, Bool, true, false, List, [], ◌∷◌, ◌++◌, length, Some, refl, subst, sym, arith}
use Rattle.std.specs.Prelude.{is_some, slice_get, if◌then◌else◌}
use Rattle.std.specs.List.{All, fold}
use Rattle.std.proofs.lemmas.Int.{ints}
use Rattle.std.proofs.lemmas.List.Elements.{All-push, All-nil, All-weaker}
use Rattle.sp_base.specs.Limits.{event_limit}
use Rattle.sp_plan.specs.Compiled.{IsTimeOf}
use Rattle.sp_plan.specs.Events.{fits, AllFit, NeverGoesBack}
use Rattle.sp_plan.specs.declared.event.Event.{Event}
use Rattle.sp_plan.specs.declared.plan.Plan.{Plan}
use Rattle.sp_cut.specs.CutRows.{CutRow, row, long_row, open_quote, rows}
use Rattle.sp_rows.specs.Rows.{RowsRead, RowResult, nothing, event, refused, row_result}
use Rattle.sp_rows.proofs.FitEvents.{PlacesFit, GivesFit, row_fits}
use Rattle.sp_ports.specs.declared.stop.Failure.TheVariants.{Limit}
use Rattle.sp_intake.specs.Reading.{Reading, start, with_event, with_result, with_row, stopped_by, take_row, read}

-- the events of the reading fit the plan, and none is before one in front of it, nor behind the last time
pub record HasFit (q : Plan) (r : Reading) : Type 0 where
  pub fit : AllFit q r.events
  pub ordered : NeverGoesBack r.events
  pub last : All (λ e. e.time ≤ℤ r.so_far.last) r.events
  pub placed : PlacesFit q r.so_far.places

-- what stands in a list with one item more
at_push : (events : List Event) (e : Event) (i : ℕ) (x : Event) → slice_get (events ++ e ∷ []) i ≡ Some x → (slice_get events i ≡ Some x) ⊎ ((i ≡ length events) × (x ≡ e))
at_push [] e zero x is = inr (refl, cc is)
at_push [] e (suc i) x is = absurd (cc is)
at_push (f ∷ events) e zero x is = inl is
at_push (f ∷ events) e (suc i) x is = elim (at_push events e i x is) [
  | inl there ↦ inl there
  | inr last ↦ inr (let at : suc i ≡ suc (length events) = omega (arith, last.0) in at, last.1)
]

-- what stands in a list is one of its items
item_is : (P : Event → Type 0) (events : List Event) (i : ℕ) (x : Event) → All P events → slice_get events i ≡ Some x → P x
item_is P [] i x all is = absurd (cc is)
item_is P (e ∷ events) zero x all is = let same : e ≡ x = cc is in subst P same (all 0 e (omega arith))
item_is P (e ∷ events) (suc i) x all is = item_is P events i x (λ j d inside. all (suc j) d (omega (arith, inside))) is

-- a place where an item stands is within the list
within : (events : List Event) (i : ℕ) (x : Event) → slice_get events i ≡ Some x → i < length events
within [] i x is = absurd (cc is)
within (e ∷ events) zero x is = omega arith
within (e ∷ events) (suc i) x is = let less = within events i x is in omega arith

-- an event that is not before any of these
ordered_push : (events : List Event) (e : Event) → NeverGoesBack events → All (λ x. x.time ≤ℤ e.time) events → NeverGoesBack (events ++ e ∷ [])
ordered_push events e ordered all i j x y le xi yj = elim (at_push events e i x xi) [
  | inl one ↦ elim (at_push events e j y yj) [
    | inl other ↦ ordered i j x y le one other
    | inr last ↦ subst (λ (z : Event). x.time ≤ℤ z.time) (sym last.1) (item_is (λ z. z.time ≤ℤ e.time) events i x all one)
  ]
  | inr one ↦ elim (at_push events e j y yj) [
    | inl other ↦ absurd (let less = within events j y other in omega (arith, one.0))
    | inr last ↦ let same : x ≡ y = cc (one.1, last.1) in subst (λ (z : Event). x.time ≤ℤ z.time) same (omega (arith, ints))
  ]
]

module _ (q : Plan) where
  fit_choice : (b : Bool) (r s : Reading) → HasFit q r → HasFit q s → HasFit q (if b then r else s)
  fit_choice true r s first second = first
  fit_choice false r s first second = second

  -- behind an event that is not before the last time, all events are up to its time
  all_before : (events : List Event) (last now : ℤ) → last ≤ℤ now → All (λ e. e.time ≤ℤ last) events → All (λ e. e.time ≤ℤ now) events
  all_before events last now le all = All-weaker (λ e. e.time ≤ℤ last) (λ e. e.time ≤ℤ now) (λ e below. omega (arith, ints, below, le)) events all

  fit_event : (r : Reading) (e : Event) (so_far : RowsRead) → HasFit q r → GivesFit q r.so_far (event e so_far) → HasFit q (with_event r e so_far)
  fit_event r e so_far has gives =
      let before : All (λ x. x.time ≤ℤ e.time) r.events = all_before r.events r.so_far.last e.time gives.1 has.last in
      fit_choice (length r.events == event_limit) (record r { so_far = so_far; stopped = Some (Limit event_limit) }) (record r { so_far = so_far; events = r.events ++ e ∷ [] })
      (record { fit = has.fit; ordered = has.ordered; last = subst (λ t. All (λ x. x.time ≤ℤ t) r.events) (sym gives.2) before; placed = gives.3 })
      (record {
        fit = All-push (λ x. fits q x ≡ true) r.events e has.fit gives.0;
        ordered = ordered_push r.events e has.ordered before;
        last = subst (λ t. All (λ x. x.time ≤ℤ t) (r.events ++ e ∷ [])) (sym gives.2) (All-push (λ x. x.time ≤ℤ e.time) r.events e before (omega (arith, ints)));
        placed = gives.3;
      })

  fit_result : (r : Reading) (given : RowResult) → HasFit q r → GivesFit q r.so_far given → HasFit q (with_result r given)
  fit_result r (nothing so_far) has gives = record { fit = has.fit; ordered = has.ordered; last = subst (λ t. All (λ x. x.time ≤ℤ t) r.events) (sym gives.0) has.last; placed = gives.1 }
  fit_result r (event e so_far) has gives = fit_event r e so_far has gives
  fit_result r (refused f) has gives = record { fit = has.fit; ordered = has.ordered; last = has.last; placed = has.placed }

  module _ (timed : IsTimeOf q.schema.columns q.schema.time) where
    fit_given : (r : Reading) (next : CutRow) → HasFit q r → HasFit q (with_row q r next)
    fit_given r (row bytes) has = fit_result r (row_result q r.so_far bytes) has (row_fits q timed r.so_far bytes has.placed)
    fit_given r long_row has = record { fit = has.fit; ordered = has.ordered; last = has.last; placed = has.placed }
    fit_given r open_quote has = record { fit = has.fit; ordered = has.ordered; last = has.last; placed = has.placed }

    fit_row : (r : Reading) (next : CutRow) → HasFit q r → HasFit q (take_row q r next)
    fit_row r next has =
        fit_choice (is_some r.stopped) r (if r.so_far.read == 2097152 then stopped_by r (Limit 2097152) else with_row q r next) has
        (fit_choice (r.so_far.read == 2097152) (stopped_by r (Limit 2097152)) (with_row q r next) (record { fit = has.fit; ordered = has.ordered; last = has.last; placed = has.placed }) (fit_given r next has))

    fit_rows : (r : Reading) (rs : List CutRow) → HasFit q r → HasFit q (fold (take_row q) r rs)
    fit_rows r [] has = has
    fit_rows r (next ∷ rs) has = fit_rows (take_row q r next) rs (fit_row r next has)

    pub read_fits : (bytes : List ℕ) (ended : Bool) → HasFit q (read q bytes ended)
    read_fits bytes ended = fit_rows (start q) (rows bytes ended) (record { fit = All-nil (λ x. fits q x ≡ true); ordered = λ i j x y le xi yj. absurd (cc xi); last = All-nil (λ x. x.time ≤ℤ (start q).so_far.last); placed = tt })
