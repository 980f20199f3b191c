-- Readers that lead where others do.
use Rattle.std.proofs.Common.{◌≡◌, ℕ, ◌+◌, Bool, true, false, List, [], ◌∷◌, ◌++◌, length, refl, sym, ◌∙◌, ap, append_assoc}
use Rattle.std.specs.Prelude.{None, is_some}
use Rattle.std.proofs.lemmas.List.{append-nil}
use Rattle.std.specs.List.{fold}
use Rattle.sp_cut.specs.CutRows.{CutRow}
use Rattle.sp_cut.specs.Left.{Left, rows_left}
use Rattle.sp_cut.specs.Answer.{Begins, with_more}
use Rattle.sp_cut.specs.Growth.{RowsStay}
use Rattle.sp_plan.specs.declared.event.Event.{Event}
use Rattle.sp_plan.specs.declared.plan.Plan.{Plan}
use Rattle.sp_rows.specs.Progress.{plan_of, read_of}
use Rattle.sp_rows.specs.Rows.{RowsRead}
use Rattle.sp_rows.specs.Rows as row_states
use Rattle.sp_slack.specs.HeldBack.{with_time}
use Rattle.sp_intake.specs.Coming.{LeadsAs, IsSettled, with_left, comes_to, ends_as}
use Rattle.sp_intake.specs.Loose.{Lateness, Loose, take_row, loose, start}
use Rattle.sp_intake.specs.Reader.{Reader, reading_of, TakesRow}
use Rattle.sp_intake.specs.Reading.{Reading}
use Rattle.sp_intake.specs.Reading as strict

-- a reading that has stopped takes no row
stays : (q : Plan) (r : Reading) (next : CutRow) → is_some r.stopped ≡ true → strict.take_row q r next ≡ r
stays q r next stopped = rw stopped refl

pub stopped_stays : (q : Plan) (r : Reading) (rows : List CutRow) → is_some r.stopped ≡ true → fold (strict.take_row q) r rows ≡ r
stopped_stays q r [] stopped = refl
stopped_stays q r (next ∷ rows) stopped = ap (λ (s : Reading). fold (strict.take_row q) s rows) (stays q r next stopped) ∙ stopped_stays q r rows stopped

-- nor does one in which times may go back
stays_so : (q : Plan) (l : Lateness) (r : Loose) (next : CutRow) → is_some r.reading.stopped ≡ true → take_row q l r next ≡ r
stays_so q l r next stopped = rw stopped refl

stopped_so : (q : Plan) (l : Lateness) (r : Loose) (rows : List CutRow) → is_some r.reading.stopped ≡ true → fold (take_row q l) r rows ≡ r
stopped_so q l r [] stopped = refl
stopped_so q l r (next ∷ rows) stopped = ap (λ (s : Loose). fold (take_row q l) s rows) (stays_so q l r next stopped) ∙ stopped_so q l r rows stopped

-- what is refused now is refused whatever comes behind
pub begins_still : RowsStay → (left : Left) (refusal : CutRow) (more : List ℕ) (ended : Bool) → left.ended ≡ false → Begins left refusal → Begins (with_more left more ended) refusal
begins_still stay left refusal more ended going begins =
    let first = stay left more ended going in
    (begins.0 ++ first.0, first.1 ∙ ap (λ (rows : List CutRow). rows ++ first.0) begins.1)

-- a row that was cut and taken leads on: what is left is what was behind it
pub taken_leads : (old new : Reader) (bytes : CutRow) (given : List Event) → plan_of new.rows ≡ plan_of old.rows → new.lateness ≡ old.lateness → new.given ≡ old.given + length given → new.greatest ≡ fold with_time old.greatest given
    → TakesRow bytes given old new
    → new.cutter.ended ≡ old.cutter.ended → rows_left old.cutter ≡ bytes ∷ rows_left new.cutter
    → (old.cutter.ended ≡ false → (more : List ℕ) (ended : Bool) → rows_left (with_more old.cutter more ended) ≡ bytes ∷ rows_left (with_more new.cutter more ended)) → LeadsAs given old new
taken_leads old new bytes given plan lateness count latest takes ended first coming = record {
  plan = plan;
  lateness = lateness;
  count = count;
  latest = latest;
  ended = ended;
  coming = λ going before counts more ended'.
      ap (λ (q : Plan). with_left q new.lateness (reading_of (before ++ given) new) (with_more new.cutter more ended')) plan
      ∙ ap (λ (l : Lateness). with_left (plan_of old.rows) l (reading_of (before ++ given) new) (with_more new.cutter more ended')) lateness
      ∙ ap (λ (r : Loose). with_left (plan_of old.rows) old.lateness r (with_more new.cutter more ended')) (takes before counts)
      ∙ sym (ap (fold (take_row (plan_of old.rows) old.lateness) (reading_of before old)) (coming going more ended'));
  ends = λ before counts.
      ap (λ (q : Plan). with_left q new.lateness (reading_of (before ++ given) new) new.cutter) plan
      ∙ ap (λ (l : Lateness). with_left (plan_of old.rows) l (reading_of (before ++ given) new) new.cutter) lateness
      ∙ ap (λ (r : Loose). with_left (plan_of old.rows) old.lateness r new.cutter) (takes before counts)
      ∙ sym (ap (fold (take_row (plan_of old.rows) old.lateness) (reading_of before old)) first);
}

-- with no more bytes, the reader comes to what it ends as where the input ends or goes on there
pub comes_to_end : (reader : Reader) (events : List Event) (ended : Bool) (end : Left) → end ≡ record reader.cutter { ended = ended } → comes_to events reader [] ended ≡ with_left (plan_of reader.rows) reader.lateness (reading_of events reader) end
comes_to_end reader events ended end is =
    ap (λ (bytes : List ℕ). with_left (plan_of reader.rows) reader.lateness (reading_of events reader) (record reader.cutter { bytes = bytes; ended = ended })) (append-nil reader.cutter.bytes)
    ∙ ap (with_left (plan_of reader.rows) reader.lateness (reading_of events reader)) (sym is)

-- a settled reader comes to what it has read
pub settled_is : (reader : Reader) (events : List Event) → IsSettled reader → ends_as events reader ≡ reading_of events reader
settled_is reader events settled = ap (fold (take_row (plan_of reader.rows) reader.lateness) (reading_of events reader)) settled

-- an open reader that is settled comes to what it has read
pub open_settled : (reader : Reader) (events : List Event) → reader.cutter.ended ≡ false → IsSettled reader → reading_of events reader ≡ comes_to events reader [] false
open_settled reader events going settled =
    sym (comes_to_end reader events false reader.cutter (ap (λ (e : Bool). record reader.cutter { ended = e }) going) ∙ settled_is reader events settled)

-- a row that stops the reading stands for all rows that it begins
pub fails_at : (q : Plan) (l : Lateness) (r : Loose) (next : CutRow) (rows others : List CutRow) → is_some (take_row q l r next).reading.stopped ≡ true → rows ≡ next ∷ others → take_row q l r next ≡ fold (take_row q l) r rows
fails_at q l r next rows others stopped begins = sym (ap (fold (take_row q l) r) begins ∙ stopped_so q l (take_row q l r next) others stopped)

-- a reader that is fed comes to what it would have with the piece and what comes behind it
pub fed_leads : (reader : Reader) (cutter : Left) (piece : List ℕ) → cutter ≡ record reader.cutter { bytes = reader.cutter.bytes ++ piece }
    → (events : List Event) (more : List ℕ) (ended : Bool) → comes_to events (record reader { cutter = cutter }) more ended ≡ comes_to events reader (piece ++ more) ended
fed_leads reader cutter piece is events more ended =
    ap (λ (c : Left). with_left (plan_of reader.rows) reader.lateness (reading_of events reader) (with_more c more ended)) is
    ∙ ap (λ (bytes : List ℕ). with_left (plan_of reader.rows) reader.lateness (reading_of events reader) (record { bytes = bytes; given = reader.cutter.given; ended = ended })) (append_assoc reader.cutter.bytes piece more)

-- of a reader nothing was read
pub record IsUnread (q : Plan) (l : Lateness) (reader : Reader) : Type 0 where
  pub plan : plan_of reader.rows ≡ q
  pub rows : read_of reader.rows ≡ row_states.start q
  pub cutter : reader.cutter ≡ record { bytes = []; given = 0; ended = false }
  pub given : reader.given ≡ 0
  pub late : reader.late ≡ 0
  pub greatest : reader.greatest ≡ None
  pub lateness : reader.lateness ≡ l

-- a reader of nothing comes to what is read of the bytes that come
pub unread_leads : (q : Plan) (l : Lateness) (reader : Reader) → IsUnread q l reader → (more : List ℕ) (ended : Bool) → comes_to [] reader more ended ≡ loose q l more ended
unread_leads q l reader unread more ended =
    ap (λ (p : Plan). with_left p reader.lateness (reading_of [] reader) (with_more reader.cutter more ended)) unread.plan
    ∙ ap (λ (own : Lateness). with_left q own (reading_of [] reader) (with_more reader.cutter more ended)) unread.lateness
    ∙ ap (λ (so_far : RowsRead). with_left q l (record { reading = record { so_far = so_far; events = []; stopped = None }; late = reader.late }) (with_more reader.cutter more ended)) unread.rows
    ∙ ap (λ (n : ℕ). with_left q l (record (start q) { late = n }) (with_more reader.cutter more ended)) unread.late
    ∙ ap (λ (c : Left). with_left q l (start q) (with_more c more ended)) unread.cutter
