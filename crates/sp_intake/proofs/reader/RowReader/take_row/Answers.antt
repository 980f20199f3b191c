use Rattle.std.proofs.Common.{◌≡◌, ◌==◌, ◌+◌, ◌-◌, ◌<◌, ◌≤ℤ◌, true, false, pos, List, [], ◌∷◌, take, Some, IsSome, Option, refl, sym, ◌∙◌, ap, subst, arith, to_z, of_z, w64}
use Rattle.std.specs.Prelude.{ℕ, ℤ}
use Rattle.std.proofs.lemmas.Bool.Decides.{nat_tests}
use Rattle.std.proofs.lemmas.Int.{ints, to_z-of_z}
use Rattle.sp_base.specs.Limits.{event_limit, number_limit}
use Rattle.sp_cut.specs.Answer.{Begins}
use Rattle.sp_cut.specs.CutRows.{row, long_row, open_quote}
use Rattle.sp_cut.specs.Left.{Left}
use Rattle.sp_cut.specs.Span.{LiesNext, bytes_at}
use Rattle.sp_ports.specs.declared.stop.Failure.{Failure}
use Rattle.sp_ports.specs.declared.stop.Failure.TheVariants.{Row, Limit}
use Rattle.sp_rows.specs.Codes.{code_of}
use Rattle.sp_rows.specs.Progress.{plan_of, is_loose, read_of}
use Rattle.sp_rows.specs.Rows.{RowsRead, row_result, refused, event, nothing, given_if}
use Rattle.std.proofs.lemmas.List.Elements.{All-nil, All-push}
use Rattle.sp_plan.specs.Events.{fits}
use Rattle.sp_slack.specs.HeldBack.{before, is_before, with_time}
use Rattle.sp_intake.specs.declared.reader.Fate.TheVariants.{Kept, PassedOver, Late, Full}
use Rattle.sp_intake.specs.Latest.{latest_of}
use Rattle.sp_intake.specs.RowsSeen.{reader_of}
use Rattle.sp_intake.specs.Orderly.{same_next}
use Rattle.sp_intake.specs.Reader.{Reader, last_of, texts_of, Fails, fate}
use Rattle.sp_intake.proofs.Since.{SameGiven}
use Rattle.sp_intake.proofs.Suiting.{event_fits, suits_placed, time_between}
use Rattle.sp_intake.proofs.Taking.{begins_at, full_fails, refused_fails, nothing_takes, kept_takes, kept_timely, not_full, passed_takes, event_fails, comes_next, row_suits, reads_at_end, reads_refused, reads_row, ready_row}
use Rattle.sp_intake.proofs.reader.RowReader.take_row.Goals as goal

-- a reader that changed in its rows alone gave nothing
still : (old : Reader) (cutter : Left) → SameGiven old (record old { cutter = cutter })
still old cutter = record { plan = refl; lateness = refl; given = refl; late = refl; greatest = refl }

pub returns-in-Err-LongRow-clause-reads : goal.returns-in-Err-LongRow-clause-reads
returns-in-Err-LongRow-clause-reads c source =
    let old = reader_of c.args.self.now in
    let begins : Begins old.cutter long_row = (rw c.in-Err-LongRow.field-0-is at c.in-Err-LongRow.ensures.fault).0 in
    reads_refused c.rows_stay.ensures source old (record old { cutter = c.find_row.new.self }) long_row c.refusal.result c.failed.result c.args.event.now c.failed.ensures begins (c.refusal.ensures.long refl)
    (still old c.find_row.new.self)

pub returns-in-Err-OpenQuote-clause-reads : goal.returns-in-Err-OpenQuote-clause-reads
returns-in-Err-OpenQuote-clause-reads c source =
    let old = reader_of c.args.self.now in
    let begins : Begins old.cutter open_quote = (rw c.in-Err-OpenQuote.field-0-is at c.in-Err-OpenQuote.ensures.fault).0 in
    reads_refused c.rows_stay.ensures source old (record old { cutter = c.find_row.new.self }) open_quote c.refusal-in-Err-OpenQuote.result c.failed-in-Err-OpenQuote.result c.args.event.now c.failed-in-Err-OpenQuote.ensures begins
    (c.refusal-in-Err-OpenQuote.ensures.open refl) (still old c.find_row.new.self)

pub returns-then-count-eq-ROWS-clause-reads : goal.returns-then-count-eq-ROWS-clause-reads
returns-then-count-eq-ROWS-clause-reads c source =
    let old = reader_of c.args.self.now in
    let mid = c.find_row.new.self in
    let next : LiesNext old.cutter c.in-Ok-Some.span = rw c.in-Ok-Some.field-0-is at c.in-Ok-Some.ensures.found in
    let bytes = bytes_at mid c.in-Ok-Some.span in
    reads_refused c.rows_stay.ensures source old (record old { cutter = mid }) (row bytes) (Limit 2097152) c.failed-then-count-eq-ROWS.result c.args.event.now c.failed-then-count-eq-ROWS.ensures
    (begins_at old.cutter mid c.in-Ok-Some.span bytes c.find_row.ensures.unchanged refl next) (full_fails old (c.args.self.now.sound c.requires.going) (row bytes) (sym c.count.ensures ∙ c.if-count-eq-ROWS.true)) (still old mid)

pub returns-in-Err-Fault-clause-reads : goal.returns-in-Err-Fault-clause-reads
returns-in-Err-Fault-clause-reads c source =
    let old = reader_of c.args.self.now in
    let mid = c.find_row.new.self in
    let new : Reader = record old { cutter = mid; rows = c.row_into.new.self; count = (read_of c.row_into.new.self).read } in
    let fault = c.in-Err-Fault.fault in
    let bytes = c.row_at.result.now in
    let next : LiesNext old.cutter c.in-Ok-Some.span = rw c.in-Ok-Some.field-0-is at c.in-Ok-Some.ensures.found in
    let ready = c.args.self.now.sound c.requires.going in
    let told : (given_if (is_loose old.rows) (row_result (plan_of old.rows) (read_of old.rows) bytes) ≡ refused fault) × (read_of new.rows ≡ read_of old.rows) = rw c.in-Err-Fault.field-0-is at c.in-Err-Fault.ensures.answers in
    let made : c.failure_at.result ≡ Row (code_of fault.kind) fault.row fault.column = rw c.in-Err-Fault.field-0-is at c.failure_at.ensures in
    let fails : Fails (row bytes) c.failure_at.result (texts_of new) old =
    subst (λ (f : Failure). Fails (row bytes) f (texts_of new) old) (sym made)
    (subst (λ (r : RowsRead). Fails (row bytes) (Row (code_of fault.kind) fault.row fault.column) r.texts old) (sym told.1) (refused_fails old ready (λ same. c.if-count-eq-ROWS.false (c.count.ensures ∙ same)) bytes fault told.0)) in
    reads_refused c.rows_stay.ensures source old new (row bytes) c.failure_at.result c.failed-in-Err-Fault.result c.row_into.new.event c.failed-in-Err-Fault.ensures
    (begins_at old.cutter mid c.in-Ok-Some.span bytes c.find_row.ensures.unchanged c.row_at.ensures next) fails (record { plan = c.row_into.ensures.plan; lateness = refl; given = refl; late = refl; greatest = refl })

pub invariant_of-self-2 : goal.invariant_of-self-2
invariant_of-self-2 c =
    let s = c.args.self.now in
    let old = reader_of s in
    let new : Reader = record old { cutter = c.pass.new.self; rows = c.row_into.new.self; count = (read_of c.row_into.new.self).read } in
    let ready = s.sound c.requires.going in
    record {
      sound = λ going_on. ready_row old new ready (λ same. c.if-count-eq-ROWS.false (c.count.ensures ∙ same)) c.in-Ok.ensures.read c.in-Ok.ensures.read (c.pass.ensures.given ∙ ap (λ (l : Left). l.given + 1) c.find_row.ensures.unchanged)
          (row_suits old.rows new.rows ready.suits c.row_at.result.now c.row_into.new.event c.in-Ok.ensures.answers c.row_into.ensures.plan c.row_into.ensures.loose);
      few = s.few;
      limited = s.limited;
      least_slack = s.least_slack;
      most_slack = s.most_slack;
    }

pub returns-in_default-clause-reads : goal.returns-in_default-clause-reads
returns-in_default-clause-reads c source =
    let old = reader_of c.args.self.now in
    let new : Reader = record old { cutter = c.pass.new.self; rows = c.row_into.new.self; count = (read_of c.row_into.new.self).read } in
    let ready = c.args.self.now.sound c.requires.going in
    let bytes = c.row_at.result.now in
    let is : given_if (is_loose old.rows) (row_result (plan_of old.rows) (read_of old.rows) bytes) ≡ nothing (read_of new.rows) = rw c.in_default.is at c.in-Ok.ensures.answers in
    reads_row source old new c.find_row.new.self c.in-Ok-Some.span bytes [] c.find_row.ensures.unchanged c.row_at.ensures c.pass.ensures c.row_into.ensures.plan refl (omega arith) refl (All-nil (λ x. fits (plan_of old.rows) x ≡ true)) (λ first were. tt)
    (nothing_takes old ready (λ same. c.if-count-eq-ROWS.false (c.count.ensures ∙ same)) bytes new is refl) (λ on_time. same_next (plan_of old.rows) (last_of old) (last_of new) refl) (omega arith)

pub overflow_sub-self : goal.overflow_sub-self
overflow_sub-self c =
    let s = c.args.self.now in
    let old = reader_of s in
    let mid : Reader = record old { cutter = c.pass.new.self; rows = c.row_into.new.self; count = (read_of c.row_into.new.self).read } in
    let ready = s.sound c.requires.going in
    let bytes = c.row_at.result.now in
    let e = c.in-Some.given in
    let is : given_if (is_loose old.rows) (row_result (plan_of old.rows) (read_of old.rows) bytes) ≡ event e (read_of mid.rows) = rw c.in-Some.is at c.in-Ok.ensures.answers in
    let between = time_between (plan_of old.rows) e (event_fits old.rows mid.rows ready.suits bytes e is) in
    let same : to_z w64 (of_z w64 e.time) ≡ e.time = to_z-of_z w64 e.time (omega (arith, ints, between)) in
    let passed : fate mid e ≡ PassedOver = sym (c.fate.ensures e (sym same)) ∙ c.in-PassedOver.is in
    let open_ : (old.given + old.late == event_limit) ≡ false = not_full mid e PassedOver passed (λ same. absurd (cc same)) (λ same. absurd (cc same)) in
    let few = s.few in
    let limited = s.limited in
    let less : s.given < s.most = grind (arith, nat_tests, open_, few, limited) in
    omega (arith, less)

pub invariant_of-self-in-PassedOver : goal.invariant_of-self-in-PassedOver
invariant_of-self-in-PassedOver c =
    let s = c.args.self.now in
    let old = reader_of s in
    let mid : Reader = record old { cutter = c.pass.new.self; rows = c.row_into.new.self; count = (read_of c.row_into.new.self).read } in
    let new : Reader = record mid { late = event_limit - (s.most - 1) } in
    let ready = s.sound c.requires.going in
    let bytes = c.row_at.result.now in
    let e = c.in-Some.given in
    let is : given_if (is_loose old.rows) (row_result (plan_of old.rows) (read_of old.rows) bytes) ≡ event e (read_of mid.rows) = rw c.in-Some.is at c.in-Ok.ensures.answers in
    let between = time_between (plan_of old.rows) e (event_fits old.rows mid.rows ready.suits bytes e is) in
    let same : to_z w64 (of_z w64 e.time) ≡ e.time = to_z-of_z w64 e.time (omega (arith, ints, between)) in
    let passed : fate mid e ≡ PassedOver = sym (c.fate.ensures e (sym same)) ∙ c.in-PassedOver.is in
    let open_ : (old.given + old.late == event_limit) ≡ false = not_full mid e PassedOver passed (λ same. absurd (cc same)) (λ same. absurd (cc same)) in
    let few = s.few in
    let limited = s.limited in
    let less : s.given < s.most = grind (arith, nat_tests, open_, few, limited) in
    record {
      sound = λ going_on. ready_row old new ready (λ same. c.if-count-eq-ROWS.false (c.count.ensures ∙ same)) c.in-Ok.ensures.read c.in-Ok.ensures.read (c.pass.ensures.given ∙ ap (λ (l : Left). l.given + 1) c.find_row.ensures.unchanged)
          (row_suits old.rows new.rows ready.suits bytes c.row_into.new.event c.in-Ok.ensures.answers c.row_into.ensures.plan c.row_into.ensures.loose);
      few = omega (arith, few, limited, less);
      limited = omega (arith, limited);
      least_slack = s.least_slack;
      most_slack = s.most_slack;
    }

pub returns-in-PassedOver-clause-reads : goal.returns-in-PassedOver-clause-reads
returns-in-PassedOver-clause-reads c source =
    let s = c.args.self.now in
    let old = reader_of s in
    let mid : Reader = record old { cutter = c.pass.new.self; rows = c.row_into.new.self; count = (read_of c.row_into.new.self).read } in
    let new : Reader = record mid { late = event_limit - (s.most - 1) } in
    let ready = c.args.self.now.sound c.requires.going in
    let bytes = c.row_at.result.now in
    let e = c.in-Some.given in
    let is : given_if (is_loose old.rows) (row_result (plan_of old.rows) (read_of old.rows) bytes) ≡ event e (read_of mid.rows) = rw c.in-Some.is at c.in-Ok.ensures.answers in
    let between = time_between (plan_of old.rows) e (event_fits old.rows mid.rows ready.suits bytes e is) in
    let same : to_z w64 (of_z w64 e.time) ≡ e.time = to_z-of_z w64 e.time (omega (arith, ints, between)) in
    let passed : fate mid e ≡ PassedOver = sym (c.fate.ensures e (sym same)) ∙ c.in-PassedOver.is in
    let open_ : (old.given + old.late == event_limit) ≡ false = not_full mid e PassedOver passed (λ same. absurd (cc same)) (λ same. absurd (cc same)) in
    let few = s.few in
    let limited = s.limited in
    let less : s.given < s.most = grind (arith, nat_tests, open_, few, limited) in
    let one_more : new.late ≡ old.late + 1 = omega (arith, few, limited, less) in
    reads_row source old new c.find_row.new.self c.in-Ok-Some.span bytes [] c.find_row.ensures.unchanged c.row_at.ensures c.pass.ensures c.row_into.ensures.plan refl (omega arith) refl (All-nil (λ x. fits (plan_of old.rows) x ≡ true)) (λ first were. tt)
    (passed_takes old ready (λ same. c.if-count-eq-ROWS.false (c.count.ensures ∙ same)) bytes mid e is c.in-Ok.ensures.read c.row_into.ensures.plan refl refl refl refl passed new refl one_more)
    (λ on_time. same_next (plan_of old.rows) (last_of old) (last_of new) refl) (omega arith)

pub invariant_of-self-in-Late : goal.invariant_of-self-in-Late
invariant_of-self-in-Late c =
    let s = c.args.self.now in
    let old = reader_of s in
    let mid : Reader = record old { cutter = c.pass.new.self; rows = c.row_into.new.self; count = (read_of c.row_into.new.self).read } in
    let new : Reader = record mid { rows = c.forget_texts.new.self; count = (read_of c.forget_texts.new.self).read } in
    let ready = s.sound c.requires.going in
    let suits = row_suits old.rows mid.rows ready.suits c.row_at.result.now c.row_into.new.event c.in-Ok.ensures.answers c.row_into.ensures.plan c.row_into.ensures.loose in
    let same = ap (λ (r : RowsRead). r.read) c.forget_texts.ensures.read in
    record {
      sound = λ going_on. ready_row old new ready (λ same. c.if-count-eq-ROWS.false (c.count.ensures ∙ same)) (same ∙ c.in-Ok.ensures.read) (same ∙ c.in-Ok.ensures.read)
          (c.pass.ensures.given ∙ ap (λ (l : Left). l.given + 1) c.find_row.ensures.unchanged) (suits_placed mid.rows new.rows suits c.forget_texts.ensures.plan (ap (λ (r : RowsRead). r.places) c.forget_texts.ensures.read) c.forget_texts.ensures.loose);
      few = s.few;
      limited = s.limited;
      least_slack = s.least_slack;
      most_slack = s.most_slack;
    }

pub returns-in-Late-clause-reads : goal.returns-in-Late-clause-reads
returns-in-Late-clause-reads c source =
    let old = reader_of c.args.self.now in
    let mid : Reader = record old { cutter = c.pass.new.self; rows = c.row_into.new.self; count = (read_of c.row_into.new.self).read } in
    let new : Reader = record mid { rows = c.forget_texts.new.self; count = (read_of c.forget_texts.new.self).read } in
    let ready = c.args.self.now.sound c.requires.going in
    let bytes = c.row_at.result.now in
    let e = c.in-Some.given in
    let next : LiesNext old.cutter c.in-Ok-Some.span = rw c.in-Ok-Some.field-0-is at c.in-Ok-Some.ensures.found in
    let is : given_if (is_loose old.rows) (row_result (plan_of old.rows) (read_of old.rows) bytes) ≡ event e (read_of mid.rows) = rw c.in-Some.is at c.in-Ok.ensures.answers in
    let between = time_between (plan_of old.rows) e (event_fits old.rows mid.rows ready.suits bytes e is) in
    let same : to_z w64 (of_z w64 e.time) ≡ e.time = to_z-of_z w64 e.time (omega (arith, ints, between)) in
    let some : IsSome c.row_into.new.event = subst IsSome (sym c.in-Some.is) refl in
    let known : texts_of new ≡ texts_of old =
    ap (λ (r : RowsRead). r.texts) c.forget_texts.ensures.read ∙ ap (λ (n : ℕ). take n (texts_of mid)) (c.in-Ok.ensures.known some) ∙ c.row_into.ensures.kept in
    reads_refused c.rows_stay.ensures source old new (row bytes) c.late_row-failure.result c.failed-in-Late.result (Some e) c.failed-in-Late.ensures
    (begins_at old.cutter c.find_row.new.self c.in-Ok-Some.span bytes c.find_row.ensures.unchanged c.row_at.ensures next)
    (subst (λ (texts : List (List ℕ)). Fails (row bytes) c.late_row-failure.result texts old) (sym known)
    (event_fails old ready (λ same. c.if-count-eq-ROWS.false (c.count.ensures ∙ same)) bytes mid e is c.in-Ok.ensures.read c.row_into.ensures.plan refl refl refl refl Late (sym (c.fate.ensures e (sym same)) ∙ c.in-Late.is) c.late_row-failure.result (ap Some (sym c.late_row-failure.ensures))))
    (record { plan = c.forget_texts.ensures.plan ∙ c.row_into.ensures.plan; lateness = refl; given = refl; late = refl; greatest = refl })

pub returns-in-Full-clause-reads : goal.returns-in-Full-clause-reads
returns-in-Full-clause-reads c source =
    let old = reader_of c.args.self.now in
    let mid : Reader = record old { cutter = c.pass.new.self; rows = c.row_into.new.self; count = (read_of c.row_into.new.self).read } in
    let ready = c.args.self.now.sound c.requires.going in
    let bytes = c.row_at.result.now in
    let e = c.in-Some.given in
    let next : LiesNext old.cutter c.in-Ok-Some.span = rw c.in-Ok-Some.field-0-is at c.in-Ok-Some.ensures.found in
    let is : given_if (is_loose old.rows) (row_result (plan_of old.rows) (read_of old.rows) bytes) ≡ event e (read_of mid.rows) = rw c.in-Some.is at c.in-Ok.ensures.answers in
    let between = time_between (plan_of old.rows) e (event_fits old.rows mid.rows ready.suits bytes e is) in
    let same : to_z w64 (of_z w64 e.time) ≡ e.time = to_z-of_z w64 e.time (omega (arith, ints, between)) in
    reads_refused c.rows_stay.ensures source old mid (row bytes) (Limit event_limit) c.failed-in-Full.result (Some e) c.failed-in-Full.ensures
    (begins_at old.cutter c.find_row.new.self c.in-Ok-Some.span bytes c.find_row.ensures.unchanged c.row_at.ensures next)
    (event_fails old ready (λ same. c.if-count-eq-ROWS.false (c.count.ensures ∙ same)) bytes mid e is c.in-Ok.ensures.read c.row_into.ensures.plan refl refl refl refl Full (sym (c.fate.ensures e (sym same)) ∙ c.in-Full.is) (Limit event_limit) refl)
    (record { plan = c.row_into.ensures.plan; lateness = refl; given = refl; late = refl; greatest = refl })

pub returns-in-Ok-None-clause-reads : goal.returns-in-Ok-None-clause-reads
returns-in-Ok-None-clause-reads c source =
    let none = rw c.in-Ok-None.field-0-is at c.in-Ok-None.ensures.found in
    reads_at_end source (reader_of c.args.self.now) c.args.event.now c.find_row.new.self c.at_end.result c.find_row.ensures.unchanged none c.at_end.ensures

pub fate-requires : goal.fate-requires
fate-requires c =
    let old = reader_of c.args.self.now in
    let ready = c.args.self.now.sound c.requires.going in
    let e = c.in-Some.given in
    let is : given_if (is_loose old.rows) (row_result (plan_of old.rows) (read_of old.rows) c.row_at.result.now) ≡ event e (read_of c.row_into.new.self) = rw c.in-Some.is at c.in-Ok.ensures.answers in
    let between = time_between (plan_of old.rows) e (event_fits old.rows c.row_into.new.self ready.suits c.row_at.result.now e is) in
    let same : to_z w64 (of_z w64 e.time) ≡ e.time = to_z-of_z w64 e.time (omega (arith, ints, between)) in
    record { low = subst (λ (t : ℤ). pos 0 ≤ℤ t) (sym same) between.0 }

pub with-self-requires-clause-low : goal.with-self-requires-clause-low
with-self-requires-clause-low c =
    let old = reader_of c.args.self.now in
    let ready = c.args.self.now.sound c.requires.going in
    let e = c.in-Some.given in
    let is : given_if (is_loose old.rows) (row_result (plan_of old.rows) (read_of old.rows) c.row_at.result.now) ≡ event e (read_of c.row_into.new.self) = rw c.in-Some.is at c.in-Ok.ensures.answers in
    let between = time_between (plan_of old.rows) e (event_fits old.rows c.row_into.new.self ready.suits c.row_at.result.now e is) in
    let same : to_z w64 (of_z w64 e.time) ≡ e.time = to_z-of_z w64 e.time (omega (arith, ints, between)) in
    subst (λ (t : ℤ). pos 0 ≤ℤ t) (sym same) between.0

pub with-self-requires-clause-high : goal.with-self-requires-clause-high
with-self-requires-clause-high c =
    let old = reader_of c.args.self.now in
    let ready = c.args.self.now.sound c.requires.going in
    let e = c.in-Some.given in
    let is : given_if (is_loose old.rows) (row_result (plan_of old.rows) (read_of old.rows) c.row_at.result.now) ≡ event e (read_of c.row_into.new.self) = rw c.in-Some.is at c.in-Ok.ensures.answers in
    let between = time_between (plan_of old.rows) e (event_fits old.rows c.row_into.new.self ready.suits c.row_at.result.now e is) in
    let same : to_z w64 (of_z w64 e.time) ≡ e.time = to_z-of_z w64 e.time (omega (arith, ints, between)) in
    subst (λ (t : ℤ). t ≤ℤ pos number_limit) (sym same) between.1

pub invariant_of-self-3 : goal.invariant_of-self-3
invariant_of-self-3 c =
    let s = c.args.self.now in
    let old = reader_of s in
    let mid : Reader = record old { cutter = c.pass.new.self; rows = c.row_into.new.self; count = (read_of c.row_into.new.self).read } in
    let g = latest_of c.with-self.result.time in
    let new : Reader = record mid { given = old.given + 1; greatest = g } in
    let ready = s.sound c.requires.going in
    let bytes = c.row_at.result.now in
    let e = c.in-Some.given in
    let is : given_if (is_loose old.rows) (row_result (plan_of old.rows) (read_of old.rows) bytes) ≡ event e (read_of mid.rows) = rw c.in-Some.is at c.in-Ok.ensures.answers in
    let between = time_between (plan_of old.rows) e (event_fits old.rows mid.rows ready.suits bytes e is) in
    let same : to_z w64 (of_z w64 e.time) ≡ e.time = to_z-of_z w64 e.time (omega (arith, ints, between)) in
    let kept : fate mid e ≡ Kept = sym (c.fate.ensures e (sym same)) ∙ c.in-Kept.is in
    let open_ : (old.given + old.late == event_limit) ≡ false = not_full mid e Kept kept (λ same. absurd (cc same)) (λ same. absurd (cc same)) in
    let few = s.few in
    record {
      sound = λ going_on. ready_row old new ready (λ same. c.if-count-eq-ROWS.false (c.count.ensures ∙ same)) c.in-Ok.ensures.read c.in-Ok.ensures.read (c.pass.ensures.given ∙ ap (λ (l : Left). l.given + 1) c.find_row.ensures.unchanged)
          (row_suits old.rows new.rows ready.suits bytes c.row_into.new.event c.in-Ok.ensures.answers c.row_into.ensures.plan c.row_into.ensures.loose);
      few = grind (arith, nat_tests, open_, few);
      limited = s.limited;
      least_slack = s.least_slack;
      most_slack = s.most_slack;
    }

pub returns-clause-reads : goal.returns-clause-reads
returns-clause-reads c source =
    let old = reader_of c.args.self.now in
    let mid : Reader = record old { cutter = c.pass.new.self; rows = c.row_into.new.self; count = (read_of c.row_into.new.self).read } in
    let g = latest_of c.with-self.result.time in
    let new : Reader = record mid { given = old.given + 1; greatest = g } in
    let ready = c.args.self.now.sound c.requires.going in
    let bytes = c.row_at.result.now in
    let e = c.in-Some.given in
    let is : given_if (is_loose old.rows) (row_result (plan_of old.rows) (read_of old.rows) bytes) ≡ event e (read_of mid.rows) = rw c.in-Some.is at c.in-Ok.ensures.answers in
    let fit = event_fits old.rows mid.rows ready.suits bytes e is in
    let between = time_between (plan_of old.rows) e fit in
    let same : to_z w64 (of_z w64 e.time) ≡ e.time = to_z-of_z w64 e.time (omega (arith, ints, between)) in
    let greatest : g ≡ with_time old.greatest e = c.with-self.ensures e (sym same) in
    let kept : fate mid e ≡ Kept = sym (c.fate.ensures e (sym same)) ∙ c.in-Kept.is in
    let counted = c.in-Ok.ensures.read in
    let timely = kept_timely old ready (λ same. c.if-count-eq-ROWS.false (c.count.ensures ∙ same)) bytes mid e is counted c.row_into.ensures.plan refl refl refl refl kept in
    reads_row source old new c.find_row.new.self c.in-Ok-Some.span bytes (e ∷ []) c.find_row.ensures.unchanged c.row_at.ensures c.pass.ensures c.row_into.ensures.plan refl (omega arith) greatest
    (All-push (λ x. fits (plan_of old.rows) x ≡ true) [] e (All-nil (λ x. fits (plan_of old.rows) x ≡ true)) fit)
    (λ first were. (ap (λ (t : Option ℤ). is_before (before old.lateness.slack t) e) were.latest ∙ timely, tt))
    (kept_takes old ready (λ same. c.if-count-eq-ROWS.false (c.count.ensures ∙ same)) bytes mid e is counted c.row_into.ensures.plan refl refl refl refl kept new refl refl)
    (λ on_time. comes_next (plan_of old.rows) old.lateness old.greatest new.greatest e on_time fit timely greatest) (omega arith)
