-- Events of which the first so many fit a plan, or never go back in time.
use Rattle.std.proofs.Common.{◌≡◌, ◌⊎◌, inl, inr, ℕ, zero, suc, ◌+◌, ◌-◌, ◌<◌, ◌≤◌, ◌≤ℤ◌, List, [], ◌∷◌, ◌++◌, true, length, get_or, Some, refl, sym, subst, arith}
use Rattle.std.proofs.lemmas.Bool.{cases_lt}
use Rattle.std.specs.Prelude.{slice_get}
use Rattle.std.proofs.lemmas.Int.{ints}
use Rattle.std.proofs.lemmas.List.Elements.{All-push}
use Rattle.sp_plan.specs.declared.event.Event.{Event}
use Rattle.sp_plan.specs.declared.plan.Plan.{Plan}
use Rattle.sp_plan.specs.Events.{AllFit, NeverGoesBack, fits}
use Rattle.sp_plan.specs.WindowNumbers.{Good}

-- of the events below this place, none has a time below that of one before it
abbrev pub OrderedTo : ℕ → List Event → Type 0
OrderedTo n events =
    (i j : ℕ) (x y : Event) → i ≤ j → j < n → slice_get events i ≡ Some x → slice_get events j ≡ Some y → x.time ≤ℤ y.time

-- an item is there at its place
there : (events : List Event) (i : ℕ) (d : Event) → i < length events → slice_get events i ≡ Some (get_or events i d)
there [] i d within = absurd (omega arith)
there (e ∷ events) zero d within = refl
there (e ∷ events) (suc i) d within = there events i d (omega arith)

-- a place where an item stands is within the list
within : (events : List Event) (i : ℕ) (x : Event) → slice_get events i ≡ Some x → i < length events
within [] i x is = absurd (cc is)
within (e ∷ events) zero x is = omega arith
within (e ∷ events) (suc i) x is = let less = within events i x is in omega arith

-- one event alone never goes back
pub ordered_one : (events : List Event) → OrderedTo 1 events
ordered_one events i j x y le less xi yj =
    let same_place : i ≡ j = omega arith in
    let same : x ≡ y = cc (xi, yj, same_place) in
    subst (λ (z : Event). x.time ≤ℤ z.time) same (omega (arith, ints))

-- one event more, which is not before the last one
pub ordered_more : (events : List Event) (n : ℕ) (d e one next : Event) → OrderedTo n events → 0 < n → n < length events
    → one ≡ get_or events (n - 1) d → next ≡ get_or events n e → one.time ≤ℤ next.time → OrderedTo (n + 1) events
ordered_more events n d e one next before some inside one_is next_is step i j x y le less xi yj = elim (cases_lt j n) [
  | inl low ↦ before i j x y le low xi yj
  | inr high ↦
      let at : j ≡ n = omega arith in
      let y_is : y ≡ next = cc (yj, there events n e inside, at, next_is) in
      elim (cases_lt i n) [
        | inl earlier ↦
            let last : x.time ≤ℤ (get_or events (n - 1) d).time = before i (n - 1) x (get_or events (n - 1) d) (omega arith) (omega arith) xi (there events (n - 1) d (omega arith)) in
            let last_one : x.time ≤ℤ one.time = subst (λ (z : Event). x.time ≤ℤ z.time) (sym one_is) last in
            let all : x.time ≤ℤ next.time = omega (arith, ints, last_one, step) in
            subst (λ (z : Event). x.time ≤ℤ z.time) (sym y_is) all
        | inr here ↦
            let same_place : i ≡ j = omega arith in
            let same : x ≡ y = cc (xi, yj, same_place) in
            subst (λ (z : Event). x.time ≤ℤ z.time) same (omega (arith, ints))
      ]
]

-- events of which all never go back
pub ordered_all : (events : List Event) (n : ℕ) → OrderedTo n events → length events ≤ n → NeverGoesBack events
ordered_all events n ordered most i j x y le xi yj =
    let inside = within events j y yj in
    ordered i j x y le (omega arith) xi yj

-- the events below this place fit the plan
abbrev pub FitTo : Plan → ℕ → List Event → Type 0
FitTo q n events = (i : ℕ) (x : Event) → i < n → slice_get events i ≡ Some x → fits q x ≡ true

-- one event more, which fits
pub fit_more : (q : Plan) (events : List Event) (n : ℕ) (d event : Event) → FitTo q n events → n < length events
    → event ≡ get_or events n d → fits q event ≡ true → FitTo q (n + 1) events
fit_more q events n d event before inside is fit i x less xi = elim (cases_lt i n) [
  | inl low ↦ before i x low xi
  | inr high ↦
      let at : i ≡ n = omega arith in
      let x_is : x ≡ event = cc (xi, there events n d inside, at, is) in
      subst (λ (z : Event). fits q z ≡ true) (sym x_is) fit
]

-- events of which all fit
pub fit_all : (q : Plan) (events : List Event) (n : ℕ) → FitTo q n events → length events ≤ n → AllFit q events
fit_all q events n fit most k d inside = fit k (get_or events k d) (omega arith) (there events k d inside)

-- what stands in a list with one item more
at_push : (events : List Event) (e : Event) (i : ℕ) (x : Event) → slice_get (events ++ e ∷ []) i ≡ Some x → (slice_get events i ≡ Some x) ⊎ ((i ≡ length events) × (x ≡ e))
at_push [] e zero x is = inr (refl, cc is)
at_push [] e (suc i) x is = absurd (cc is)
at_push (f ∷ events) e zero x is = inl is
at_push (f ∷ events) e (suc i) x is = elim (at_push events e i x is) [
  | inl there ↦ inl there
  | inr last ↦ inr (let at : suc i ≡ suc (length events) = omega (arith, last.0) in at, last.1)
]

-- an event that is not before the last one is before none
before_none : (events : List Event) (e : Event) → NeverGoesBack events → ((last : Event) → slice_get events (length events - 1) ≡ Some last → last.time ≤ℤ e.time)
    → (i : ℕ) (x : Event) → slice_get events i ≡ Some x → x.time ≤ℤ e.time
before_none events e ordered last i x xi =
    let inside = within events i x xi in
    let final : slice_get events (length events - 1) ≡ Some (get_or events (length events - 1) x) = there events (length events - 1) x (omega (arith, inside)) in
    let above = last (get_or events (length events - 1) x) final in
    let below = ordered i (length events - 1) x (get_or events (length events - 1) x) (omega (arith, inside)) xi final in
    omega (arith, ints, above, below)

-- one event more, which fits and is not before the last one
pub good_next : (q : Plan) (events : List Event) (e : Event) → Good q events → fits q e ≡ true
    → ((last : Event) → slice_get events (length events - 1) ≡ Some last → last.time ≤ℤ e.time) → Good q (events ++ e ∷ [])
good_next q events e good fit last = (All-push (λ (x : Event). fits q x ≡ true) events e good.0 fit, ordered)
  where
    ordered : NeverGoesBack (events ++ e ∷ [])
    ordered i j x y le xi yj = elim (at_push events e i x xi) [
      | inl one ↦ elim (at_push events e j y yj) [
        | inl other ↦ good.1 i j x y le one other
        | inr end ↦ subst (λ (z : Event). x.time ≤ℤ z.time) (sym end.1) (before_none events e good.1 last i x one)
      ]
      | inr one ↦ elim (at_push events e j y yj) [
        | inl other ↦ absurd (let less = within events j y other in omega (arith, one.0))
        | inr end ↦ let same : x ≡ y = cc (one.1, end.1) in subst (λ (z : Event). x.time ≤ℤ z.time) same (omega (arith, ints))
      ]
    ]
