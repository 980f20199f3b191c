-- What comes of bytes: what its status and its stop tell of each other, and that bytes behind a failure change nothing.
use Rattle.std.proofs.Common.{◌⊎◌, ◌≡◌, ⊎_elim, ℕ, Bool, true, false, List, [], ◌∷◌, ◌++◌, Option, Some, None, refl, sym, ◌∙◌, ap, arith}
use Rattle.std.specs.Prelude.{is_some}
use Rattle.std.specs.List.{fold}
use Rattle.std.proofs.lemmas.List.Sums.{fold-append}
use Rattle.sp_cut.specs.CutRows.{CutRow, rows}
use Rattle.sp_cut.specs.Growth.{RowsStay}
use Rattle.sp_plan.specs.declared.event.Event.{Event}
use Rattle.sp_plan.specs.declared.plan.Plan.{Plan}
use Rattle.sp_slack.specs.HeldBack.{slacked}
use Rattle.sp_slack.specs.declared.late.LateRule.{LateRule}
use Rattle.sp_slack.specs.declared.late.LateRule.TheVariants.{Refuse, Drop}
use Rattle.sp_ports.specs.Stopping.{is_end}
use Rattle.sp_ports.specs.declared.stop.Failure.{Failure}
use Rattle.sp_ports.specs.declared.stop.Failure.TheVariants.{Row, Limit}
use Rattle.sp_ports.specs.declared.stop.Stop.{Stop}
use Rattle.sp_ports.specs.declared.stop.Stop.TheVariants.{End, Failed, Open}
use Rattle.sp_intake.specs.Loose.{Lateness, Loose, loose}
use Rattle.sp_intake.specs.Loose as loosely
use Rattle.sp_intake.specs.Reading.{Reading, start, take_row, read, stop_of, stop_or, end_stop}
use Rattle.sp_intake.proofs.Leading.{stopped_stays}
use Rattle.sp_answer.specs.Outcome.{number_of}
use Rattle.sp_answer.specs.declared.status.Status.{Status}
use Rattle.sp_answer.specs.declared.status.Status.TheVariants.{Memory, Input, Read, Write}
use Rattle.sp_commands.specs.Ends.{Came, CameFrom, came, came_within, late_status, status_of_failure}

-- What is told where the input has ended, or goes on: the status is that of a cut neither by memory nor by the output; it is a fault of the input only
-- where the source failed; and it has the number 0 only at the end.
pub record IsTold (ended : Bool) (c : Came) : Type 0 where
  pub not_cut : (c.status ≡ Memory) ⊎ (c.status ≡ Write) → ⊥
  pub only_open : c.status ≡ Read → c.stop ≡ Open
  pub is_read : c.stop ≡ Open → c.status ≡ Read
  pub only_end : number_of c.status ≡ 0 → (c.stop ≡ End) × (ended ≡ true)
  pub done : c.stop ≡ End → number_of c.status ≡ 0

module _ (events : List Event) where
  abbrev with : Stop → Status → Came
  with stop status = record { events = events; stop = stop; status = status }

  failed_told : (ended : Bool) (failure : Failure) → IsTold ended (with (Failed failure) (status_of_failure failure))
  failed_told ended (Row code row column) = record {
    not_cut = ⊎_elim (λ e. cc e) (λ e. cc e);
    only_open = λ e. absurd (cc e);
    is_read = λ e. absurd (cc e);
    only_end = λ e. absurd (omega (arith, e));
    done = λ e. absurd (cc e);
  }
  failed_told ended (Limit limit) = record {
    not_cut = ⊎_elim (λ e. cc e) (λ e. cc e);
    only_open = λ e. absurd (cc e);
    is_read = λ e. absurd (cc e);
    only_end = λ e. absurd (omega (arith, e));
    done = λ e. absurd (cc e);
  }

  open_told : (ended : Bool) → IsTold ended (with Open Read)
  open_told ended = record {
    not_cut = ⊎_elim (λ e. cc e) (λ e. cc e);
    only_open = λ e. refl;
    is_read = λ e. refl;
    only_end = λ e. absurd (omega (arith, e));
    done = λ e. absurd (cc e);
  }

  end_told : (rule : LateRule) (late : ℕ) → IsTold true (with End (late_status rule late End))
  end_told Refuse late = record {
    not_cut = ⊎_elim (λ e. cc e) (λ e. cc e);
    only_open = λ e. absurd (cc e);
    is_read = λ e. absurd (cc e);
    only_end = λ e. (refl, refl);
    done = λ e. refl;
  }
  end_told Drop late = record {
    not_cut = ⊎_elim (λ e. cc e) (λ e. cc e);
    only_open = λ e. absurd (cc e);
    is_read = λ e. absurd (cc e);
    only_end = λ e. (refl, refl);
    done = λ e. refl;
  }

  at_end : (rule : LateRule) (late : ℕ) (places : Option (List ℕ)) → IsTold true (with (end_stop places) (late_status rule late (end_stop places)))
  at_end Refuse late None = failed_told true (Row 1 0 0)
  at_end Drop late None = failed_told true (Row 1 0 0)
  at_end rule late (Some places) = end_told rule late

  stop_told : (rule : LateRule) (late : ℕ) (r : Reading) (ended : Bool) (stopped : Option Failure) → IsTold ended (with (stop_or r ended stopped) (late_status rule late (stop_or r ended stopped)))
  stop_told Refuse late r ended (Some failure) = failed_told ended failure
  stop_told Drop late r ended (Some failure) = failed_told ended failure
  stop_told Refuse late r false None = open_told false
  stop_told Drop late r false None = open_told false
  stop_told Refuse late r true None = at_end Refuse late r.so_far.places
  stop_told Drop late r true None = at_end Drop late r.so_far.places

pub came_told : (q : Plan) (bytes : List ℕ) (ended : Bool) → IsTold ended (came q bytes ended)
came_told q bytes ended = let r = read q bytes ended in stop_told r.events Refuse 0 r ended r.stopped

pub within_told : (q : Plan) (l : Lateness) (bytes : List ℕ) (ended : Bool) → IsTold ended (came_within q l bytes ended)
within_told q l bytes ended =
    let r = loose q l bytes ended in
    stop_told (slacked l.slack r.reading.events (is_end (stop_of r.reading ended))) l.rule r.late r.reading ended r.reading.stopped

-- input that goes on and has not stopped the reading is read for more
pub came_open : (q : Plan) (bytes : List ℕ) → (read q bytes false).stopped ≡ None → (came q bytes false).status ≡ Read
came_open q bytes goes_on = (came_told q bytes false).is_read (ap (stop_or (read q bytes false) false) goes_on)

pub within_open : (q : Plan) (l : Lateness) (bytes : List ℕ) → (loose q l bytes false).reading.stopped ≡ None → (came_within q l bytes false).status ≡ Read
within_open q l bytes goes_on = (within_told q l bytes false).is_read (ap (stop_or (loose q l bytes false).reading false) goes_on)

-- ---- more bytes

-- a reading that a row or a limit has stopped stays as it is, whatever bytes come behind
failed_stays : RowsStay → (q : Plan) (bytes more : List ℕ) (ended : Bool) → is_some (read q bytes false).stopped ≡ true → read q (bytes ++ more) ended ≡ read q bytes false
failed_stays stay q bytes more ended failed =
    let first = stay (record { bytes = bytes; given = 0; ended = false }) more ended refl in
    ap (fold (take_row q) (start q)) first.1
    ∙ fold-append (take_row q) (start q) (rows bytes false) first.0
    ∙ stopped_stays q (read q bytes false) first.0 failed

-- and so does one in which times may go back
row_stays : (q : Plan) (l : Lateness) (r : Loose) (next : CutRow) → is_some r.reading.stopped ≡ true → loosely.take_row q l r next ≡ r
row_stays q l r next stopped = rw stopped refl

rows_stay : (q : Plan) (l : Lateness) (r : Loose) (all : List CutRow) → is_some r.reading.stopped ≡ true → fold (loosely.take_row q l) r all ≡ r
rows_stay q l r [] stopped = refl
rows_stay q l r (next ∷ all) stopped = ap (λ (s : Loose). fold (loosely.take_row q l) s all) (row_stays q l r next stopped) ∙ rows_stay q l r all stopped

loose_stays : RowsStay → (q : Plan) (l : Lateness) (bytes more : List ℕ) (ended : Bool) → is_some (loose q l bytes false).reading.stopped ≡ true → (loose q l (bytes ++ more) ended).reading ≡ (loose q l bytes false).reading
loose_stays stay q l bytes more ended failed =
    let first = stay (record { bytes = bytes; given = 0; ended = false }) more ended refl in
    ap (λ (r : Loose). r.reading)
    (ap (fold (loosely.take_row q l) (loosely.start q)) first.1
    ∙ fold-append (loosely.take_row q l) (loosely.start q) (rows bytes false) first.0
    ∙ rows_stay q l (loose q l bytes false) first.0 failed)

-- so where the reading of all bytes stops at their end, that of the first ones has not stopped
module _ (reading : List ℕ → Bool → Reading) (stays : (bytes more : List ℕ) (ended : Bool) → is_some (reading bytes false).stopped ≡ true → reading (bytes ++ more) ended ≡ reading bytes false) where
  goes_on : (bytes more : List ℕ) → stop_of (reading (bytes ++ more) true) true ≡ End → (reading bytes false).stopped ≡ None
  goes_on bytes more end = by (reading bytes false).stopped refl
    where
      by : (stopped : Option Failure) → (reading bytes false).stopped ≡ stopped → stopped ≡ None
      by None is = refl
      by (Some failure) is =
          let same = stays bytes more true (ap is_some is) in
          let failed : stop_of (reading (bytes ++ more) true) true ≡ Failed failure = ap (λ (r : Reading). stop_of r true) same ∙ ap (stop_or (reading bytes false) true) is in
          let clash : Failed failure ≡ End = sym failed ∙ end in
          absurd (cc clash)

-- What comes of bytes in any way: it is told, input of no bytes lacks its header, and where all bytes are read to their end the first ones may go on.
pub record IsWay (way : CameFrom) : Type 0 where
  pub told : (bytes : List ℕ) (ended : Bool) → IsTold ended (way bytes ended)
  pub nothing : (way [] true).status ≡ Input 1 0 0
  pub goes_on : (bytes more : List ℕ) → (way (bytes ++ more) true).stop ≡ End → (way bytes false).status ≡ Read

pub strict_way : RowsStay → (q : Plan) → IsWay (came q)
strict_way stay q = record {
  told = came_told q;
  nothing = refl;
  goes_on = λ bytes more end. came_open q bytes (goes_on (read q) (failed_stays stay q) bytes more end);
}

no_header : (rule : LateRule) → late_status rule 0 (Failed (Row 1 0 0)) ≡ Input 1 0 0
no_header Refuse = refl
no_header Drop = refl

pub late_way : RowsStay → (q : Plan) (l : Lateness) → IsWay (came_within q l)
late_way stay q l = record {
  told = within_told q l;
  nothing = no_header l.rule;
  goes_on = λ bytes more end. within_open q l bytes (goes_on (λ b e. (loose q l b e).reading) (loose_stays stay q l) bytes more end);
}
