-- What is kept where events may come out of order stays, and so does what is to be given of it, whatever bytes come behind.
use Rattle.std.proofs.Common.{◌≡◌, ◌==◌, ℕ, ℤ, ◌+◌, ◌≤◌, Bool, true, false, List, [], ◌∷◌, ◌++◌, refl, sym, ◌∙◌, ap, subst, append_assoc, arith}
use Rattle.std.specs.Prelude.{is_some, if◌then◌else◌}
use Rattle.std.specs.List.{fold}
use Rattle.std.proofs.lemmas.List.{append-nil}
use Rattle.std.proofs.lemmas.List.Sums.{fold-append}
use Rattle.sp_plan.specs.Compiled.{IsTimeOf}
use Rattle.sp_plan.specs.declared.event.Event.{Event}
use Rattle.sp_plan.specs.declared.plan.Plan.{Plan}
use Rattle.sp_cut.specs.CutRows.{CutRow, row, long_row, open_quote, rows}
use Rattle.sp_cut.proofs.Growing.{rows_stay}
use Rattle.sp_rows.specs.Rows.{RowsRead, RowResult, nothing, event, refused, row_result, given_if}
use Rattle.sp_slack.specs.HeldBack.{is_late, slacked, AreTimely}
use Rattle.sp_slack.proofs.Growing.{grows}
use Rattle.sp_slack.specs.declared.late.LateRule.{LateRule}
use Rattle.sp_slack.specs.declared.late.LateRule.TheVariants.{Refuse, Drop}
use Rattle.sp_ports.specs.declared.stop.Failure.TheVariants.{Limit}
use Rattle.sp_intake.specs.Reading.{stopped_by}
use Rattle.sp_intake.specs.Loose.{Lateness, Loose, start, reads_on, is_full, filled, with_late, with_event, with_result, with_row, take_row, loose}
use Rattle.sp_intake.specs.LooseLaws.{LooseGrowsTo}
use Rattle.sp_intake.specs.Standing.{IsFront}
use Rattle.sp_intake.proofs.LooseGood.{kept_timely}

-- none of the events behind some is late where none of them all is
pub timely_split : (slack : ℤ) (before xs ys : List Event) → AreTimely slack before (xs ++ ys) → AreTimely slack (before ++ xs) ys
timely_split slack before [] ys timely = subst (λ (l : List Event). AreTimely slack l ys) (sym (append-nil before)) timely
timely_split slack before (x ∷ xs) ys timely = subst (λ (l : List Event). AreTimely slack l ys) (append_assoc before (x ∷ []) xs) (timely_split slack (before ++ x ∷ []) xs ys timely.1)

-- a reading has the events of an earlier one and perhaps others, and passed over as many or more
record Follows (r s : Loose) : Type 0 where
  others : List Event
  events : s.reading.events ≡ r.reading.events ++ others
  late : r.late ≤ s.late

still : (r s : Loose) → s.reading.events ≡ r.reading.events → s.late ≡ r.late → Follows r s
still r s events late = record { others = []; events = events ∙ sym (append-nil r.reading.events); late = omega (arith, late) }

follows_on : (r s t : Loose) → Follows r s → Follows s t → Follows r t
follows_on r s t one two = record {
  others = one.others ++ two.others;
  events = two.events ∙ ap (λ (l : List Event). l ++ two.others) one.events ∙ append_assoc r.reading.events one.others two.others;
  late = omega (arith, one.late, two.late);
}

module _ (q : Plan) (l : Lateness) where
  late_follows : (rule : LateRule) (r : Loose) (so_far : RowsRead) → Follows r (with_late q rule r so_far)
  late_follows Refuse r so_far = still r (with_late q Refuse r so_far) refl refl
  late_follows Drop r so_far = by (is_full r)
    where
      by : (b : Bool) → Follows r (if b then filled r so_far else record { reading = record r.reading { so_far = so_far }; late = r.late + 1 })
      by true = still r (filled r so_far) refl refl
      by false = record { others = []; events = sym (append-nil r.reading.events); late = omega arith }

  event_follows : (r : Loose) (e : Event) (so_far : RowsRead) → Follows r (with_event q l r e so_far)
  event_follows r e so_far = by (is_late l.slack r.reading.events e) (is_full r)
    where
      by : (b c : Bool) → Follows r (if b then with_late q l.rule r so_far else if c then filled r so_far else reads_on r (record r.reading { so_far = so_far; events = r.reading.events ++ e ∷ [] }))
      by true c = late_follows l.rule r so_far
      by false true = still r (filled r so_far) refl refl
      by false false = record { others = e ∷ []; events = refl; late = omega arith }

  result_follows : (r : Loose) (given : RowResult) → Follows r (with_result q l r (given_if true given))
  result_follows r (nothing so_far) = still r (with_result q l r (nothing so_far)) refl refl
  result_follows r (event e so_far) = event_follows r e _
  result_follows r (refused f) = still r (with_result q l r (refused f)) refl refl

  given_follows : (r : Loose) (next : CutRow) → Follows r (with_row q l r next)
  given_follows r (row bytes) = result_follows r (row_result q r.reading.so_far bytes)
  given_follows r long_row = still r (with_row q l r long_row) refl refl
  given_follows r open_quote = still r (with_row q l r open_quote) refl refl

  row_follows : (r : Loose) (next : CutRow) → Follows r (take_row q l r next)
  row_follows r next = by (is_some r.reading.stopped) (r.reading.so_far.read == 2097152)
    where
      by : (b full : Bool) → Follows r (if b then r else if full then reads_on r (stopped_by r.reading (Limit 2097152)) else with_row q l r next)
      by true full = still r r refl refl
      by false true = still r (reads_on r (stopped_by r.reading (Limit 2097152))) refl refl
      by false false = given_follows r next

  rows_follow : (rs : List CutRow) (r : Loose) → Follows r (fold (take_row q l) r rs)
  rows_follow [] r = still r r refl refl
  rows_follow (next ∷ rs) r = follows_on r (take_row q l r next) (fold (take_row q l) (take_row q l r next) rs) (row_follows r next) (rows_follow rs (take_row q l r next))

  -- the events that were given come first
  pub rows_grow : (r : Loose) (rs : List CutRow) → IsFront r.reading.events (fold (take_row q l) r rs).reading.events
  rows_grow r rs = let follows = rows_follow rs r in (follows.others, follows.events)

  bytes_follow : (front more : List ℕ) (ended : Bool) → Follows (loose q l front false) (loose q l (front ++ more) ended)
  bytes_follow front more ended =
      let first = rows_stay (record { bytes = front; given = 0; ended = false }) more ended refl in
      let same : loose q l (front ++ more) ended ≡ fold (take_row q l) (loose q l front false) first.0 =
      ap (fold (take_row q l) (start q)) first.1 ∙ fold-append (take_row q l) (start q) (rows front false) first.0 in
      subst (Follows (loose q l front false)) (sym same) (rows_follow first.0 (loose q l front false))

  pub loose_grows : IsTimeOf q.schema.columns q.schema.time → (front more : List ℕ) (ended all : Bool) → LooseGrowsTo q l front more ended all
  loose_grows timed front more ended all =
      let follows = bytes_follow front more ended in
      let before : List Event = (loose q l front false).reading.events in
      let timely = subst (AreTimely l.slack []) follows.events (kept_timely q l timed (front ++ more) ended) in
      let given = grows l.slack before follows.others all (timely_split l.slack [] before follows.others timely) in
      record {
        events = (follows.others, follows.events);
        given = (given.0, ap (λ (events : List Event). slacked l.slack events all) follows.events ∙ given.1);
        late = follows.late;
      }
