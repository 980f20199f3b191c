use Rattle.std.proofs.Common.{◌≡◌, ◌+◌, [], true, false, length, drop, get_or, Some, sym, ◌∙◌, ap, arith}
use Rattle.std.proofs.lemmas.List.{drop_all, drop_more}
use Rattle.csv.specs.Machine.{next_record, is_end, ends_at_end}
use Rattle.csv.specs.Reading.{default_config}
use Rattle.csv.specs.declared.parser.State.TheVariants as st
use Rattle.sp_rows.specs.Held.{Held}
use Rattle.sp_rows.specs.Quoted.{state_of, action_of}
use Rattle.sp_rows.proofs.ByteByByte.{one_more, last_one, no_record, at_end}
use Rattle.sp_rows.proofs.quoted.Record.read.Goals as goal

pub returns-then-is_end-clause-read : goal.returns-then-is_end-clause-read
returns-then-is_end-clause-read c =
    let bytes = c.args.bytes.now in
    let place = c.loop-place.place in
    let byte = get_or bytes place 0 in
    let fields = c.loop-place.self.cells in
    let field = c.loop-place.self.cell in
    let ends : is_end (action_of c.step-next.result.1) ≡ true = sym c.is_end.ensures ∙ c.if-is_end.true in
    sym c.loop-place.invariant
    ∙ ap (next_record default_config (state_of c.loop-place.at) fields field) (drop_more bytes place 0 c.loop-place-test.true)
    ∙ last_one default_config (state_of c.loop-place.at) (state_of c.step-next.result.0) (action_of c.step-next.result.1) fields field byte (drop (place + 1) bytes) c.step-next.ensures c.take.new.self.cells ends c.in_ok-take.ensures.cells

pub loop-place-preserved : goal.loop-place-preserved
loop-place-preserved c =
    let bytes = c.args.bytes.now in
    let place = c.loop-place.place in
    let byte = get_or bytes place 0 in
    let fields = c.loop-place.self.cells in
    let field = c.loop-place.self.cell in
    let goes_on : is_end (action_of c.step-next.result.1) ≡ false = sym c.is_end.ensures ∙ c.if-is_end.false in
    one_more default_config (state_of c.loop-place.at) (state_of c.step-next.result.0) (action_of c.step-next.result.1) fields field byte (drop (place + 1) bytes) c.step-next.ensures c.take.new.self.cells c.take.new.self.cell goes_on c.in_ok-take.ensures.cells c.in_ok-take.ensures.cell
    ∙ ap (next_record default_config (state_of c.loop-place.at) fields field) (sym (drop_more bytes place 0 c.loop-place-test.true))
    ∙ c.loop-place.invariant

pub returns-then-not-ends_record-clause-read : goal.returns-then-not-ends_record-clause-read
returns-then-not-ends_record-clause-read c =
    let fields = c.loop-place.self.cells in
    let field = c.loop-place.self.cell in
    let none : ends_at_end (state_of c.loop-place.at) ≡ false = sym c.ends_record.ensures ∙ c.if-not-ends_record.true in
    sym c.loop-place.invariant
    ∙ ap (next_record default_config (state_of c.loop-place.at) fields field) (drop_all c.loop-place.place c.args.bytes.now c.loop-place-test.false)
    ∙ no_record default_config (state_of c.loop-place.at) fields field none

pub returns-clause-read : goal.returns-clause-read
returns-clause-read c =
    let bytes = c.args.bytes.now in
    let fields = c.loop-place.self.cells in
    let field = c.loop-place.self.cell in
    let ends : ends_at_end (state_of c.loop-place.at) ≡ true = sym c.ends_record.ensures ∙ c.if-not-ends_record.false in
    let all : drop (length bytes) bytes ≡ [] = drop_all (length bytes) bytes (omega arith) in
    sym c.loop-place.invariant
    ∙ ap (next_record default_config (state_of c.loop-place.at) fields field) (drop_all c.loop-place.place bytes c.loop-place-test.false)
    ∙ at_end default_config (state_of c.loop-place.at) fields field ends
    ∙ (λ i. Some (sym (ap (λ (h : Held). h.cells) c.in_ok-end_cell.ensures) i, st.StartRecord, sym all i))
