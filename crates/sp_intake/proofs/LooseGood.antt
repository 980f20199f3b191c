-- What is kept where events may come out of order: it fits the plan, none of it was late, and it is at most as much as an input may have.
use Rattle.std.proofs.Common.{◌≡◌, ◌==◌, ℕ, ℤ, ◌+◌, ◌≤◌, Bool, true, false, List, [], ◌∷◌, ◌++◌, length, refl, sym, ap, subst, append_assoc, arith, length-append}
use Rattle.std.specs.Prelude.{is_some, if◌then◌else◌}
use Rattle.std.specs.List.{fold}
use Rattle.std.proofs.lemmas.Bool.Decides.{nat_tests}
use Rattle.std.proofs.lemmas.List.{append-nil}
use Rattle.std.proofs.lemmas.List.Elements.{All-push, All-nil}
use Rattle.sp_base.specs.Limits.{event_limit}
use Rattle.sp_plan.specs.Compiled.{IsTimeOf}
use Rattle.sp_plan.specs.Events.{fits, AllFit}
use Rattle.sp_plan.specs.declared.event.Event.{Event}
use Rattle.sp_plan.specs.declared.plan.Plan.{Plan}
use Rattle.sp_cut.specs.CutRows.{CutRow, row, long_row, open_quote, rows}
use Rattle.sp_rows.specs.Rows.{RowsRead, RowResult, nothing, event, refused, row_result, given_if}
use Rattle.sp_rows.proofs.FitEvents.{PlacesFit, GivesFit, row_fits}
use Rattle.sp_slack.specs.HeldBack.{is_late, slacked, AreTimely}
use Rattle.sp_slack.proofs.Sorting.{slacked_ordered, slacked_own, slacked_few}
use Rattle.sp_slack.specs.declared.late.LateRule.{LateRule}
use Rattle.sp_slack.specs.declared.late.LateRule.TheVariants.{Refuse, Drop}
use Rattle.sp_ports.specs.Giving.{AreGood}
use Rattle.sp_ports.specs.declared.stop.Failure.TheVariants.{Limit}
use Rattle.sp_intake.specs.Reading.{stopped_by}
use Rattle.sp_intake.specs.Loose.{Lateness, Loose, start, reads_on, is_full, filled, with_late, with_event, with_result, with_row, take_row, loose}

-- one event more that is not late
timely_push : (slack : ℤ) (before events : List Event) (e : Event) → AreTimely slack before events → is_late slack (before ++ events) e ≡ false → AreTimely slack before (events ++ e ∷ [])
timely_push slack before [] e timely late = (subst (λ (l : List Event). is_late slack l e ≡ false) (append-nil before) late, tt)
timely_push slack before (x ∷ events) e timely late =
    (timely.0, timely_push slack (before ++ x ∷ []) events e timely.1 (subst (λ (l : List Event). is_late slack l e ≡ false) (sym (append_assoc before (x ∷ []) events)) late))

module _ (q : Plan) (l : Lateness) where
  record Holds (r : Loose) : Type 0 where
    timely : AreTimely l.slack [] r.reading.events
    fit : AllFit q r.reading.events
    few : length r.reading.events + r.late ≤ event_limit
    placed : PlacesFit q r.reading.so_far.places

  -- the same events, with other rows
  same_events : (r s : Loose) → Holds r → s.reading.events ≡ r.reading.events → s.late ≡ r.late → PlacesFit q s.reading.so_far.places → Holds s
  same_events r s has events late placed = record {
    timely = subst (AreTimely l.slack []) (sym events) has.timely;
    fit = subst (AllFit q) (sym events) has.fit;
    few = let counts = ap length events in omega (arith, counts, late, has.few);
    placed = placed;
  }

  late_holds : (rule : LateRule) (r : Loose) (so_far : RowsRead) → Holds r → PlacesFit q so_far.places → Holds (with_late q rule r so_far)
  late_holds Refuse r so_far has placed = same_events r (with_late q Refuse r so_far) has refl refl has.placed
  late_holds Drop r so_far has placed = by (is_full r) refl
    where
      by : (b : Bool) → is_full r ≡ b → Holds (if b then filled r so_far else record { reading = record r.reading { so_far = so_far }; late = r.late + 1 })
      by true is = same_events r (filled r so_far) has refl refl placed
      by false is = record { timely = has.timely; fit = has.fit; few = let few = has.few in grind (arith, nat_tests, is, few); placed = placed }

  event_holds : (r : Loose) (e : Event) (so_far : RowsRead) → Holds r → fits q e ≡ true → PlacesFit q so_far.places → Holds (with_event q l r e so_far)
  event_holds r e so_far has fit placed = by (is_late l.slack r.reading.events e) refl (is_full r) refl
    where
      by : (b : Bool) → is_late l.slack r.reading.events e ≡ b → (c : Bool) → is_full r ≡ c
          → Holds (if b then with_late q l.rule r so_far else if c then filled r so_far else reads_on r (record r.reading { so_far = so_far; events = r.reading.events ++ e ∷ [] }))
      by true late c is = late_holds l.rule r so_far has placed
      by false late true is = same_events r (filled r so_far) has refl refl placed
      by false late false is = record {
        timely = timely_push l.slack [] r.reading.events e has.timely late;
        fit = All-push (λ x. fits q x ≡ true) r.reading.events e has.fit fit;
        few = let few = has.few in let more = length-append r.reading.events (e ∷ []) in grind (arith, nat_tests, is, few, more);
        placed = placed;
      }

  result_holds : (r : Loose) (given : RowResult) → Holds r → GivesFit q r.reading.so_far given → Holds (with_result q l r (given_if true given))
  result_holds r (nothing so_far) has gives = same_events r (with_result q l r (nothing so_far)) has refl refl gives.1
  result_holds r (event e so_far) has gives = event_holds r e _ has gives.0 gives.3
  result_holds r (refused f) has gives = same_events r (with_result q l r (refused f)) has refl refl has.placed

  module _ (timed : IsTimeOf q.schema.columns q.schema.time) where
    given_holds : (r : Loose) (next : CutRow) → Holds r → Holds (with_row q l r next)
    given_holds r (row bytes) has = result_holds r (row_result q r.reading.so_far bytes) has (row_fits q timed r.reading.so_far bytes has.placed)
    given_holds r long_row has = same_events r (with_row q l r long_row) has refl refl has.placed
    given_holds r open_quote has = same_events r (with_row q l r open_quote) has refl refl has.placed

    row_holds : (r : Loose) (next : CutRow) → Holds r → Holds (take_row q l r next)
    row_holds r next has = by (is_some r.reading.stopped) (r.reading.so_far.read == 2097152)
      where
        by : (b full : Bool) → Holds (if b then r else if full then reads_on r (stopped_by r.reading (Limit 2097152)) else with_row q l r next)
        by true full = has
        by false true = same_events r (reads_on r (stopped_by r.reading (Limit 2097152))) has refl refl has.placed
        by false false = given_holds r next has

    rows_hold : (rs : List CutRow) (r : Loose) → Holds r → Holds (fold (take_row q l) r rs)
    rows_hold [] r has = has
    rows_hold (next ∷ rs) r has = rows_hold rs (take_row q l r next) (row_holds r next has)

    loose_holds : (bytes : List ℕ) (ended : Bool) → Holds (loose q l bytes ended)
    loose_holds bytes ended = rows_hold (rows bytes ended) (start q) (record { timely = tt; fit = All-nil (λ x. fits q x ≡ true); few = omega arith; placed = tt })

    pub kept_fit : (bytes : List ℕ) (ended : Bool) → AllFit q (loose q l bytes ended).reading.events
    kept_fit bytes ended = (loose_holds bytes ended).fit

    pub kept_few : (bytes : List ℕ) (ended : Bool) → length (loose q l bytes ended).reading.events + (loose q l bytes ended).late ≤ event_limit
    kept_few bytes ended = (loose_holds bytes ended).few

    pub kept_timely : (bytes : List ℕ) (ended : Bool) → AreTimely l.slack [] (loose q l bytes ended).reading.events
    kept_timely bytes ended = (loose_holds bytes ended).timely

    pub slacked_good : (bytes : List ℕ) (ended all : Bool) → AreGood q (slacked l.slack (loose q l bytes ended).reading.events all)
    slacked_good bytes ended all =
        let has = loose_holds bytes ended in
        let events = (loose q l bytes ended).reading.events in
        record {
          good = (slacked_own (fits q) l.slack events all has.fit, slacked_ordered l.slack events all);
          few = omega (arith, has.few, slacked_few l.slack events all);
        }
