use Rattle.std.proofs.Common.{◌≡◌, ◌+◌, [], true, false, drop, get_or, refl, sym, ◌∙◌, ap}
use Rattle.std.specs.Prelude.{is_some, Option}
use Rattle.std.proofs.lemmas.List.{drop_all, drop_more}
use Rattle.csv.specs.Machine.{Read, next_record, fields_after, field_after, is_end}
use Rattle.csv.specs.Reading.{default_config}
use Rattle.sp_rows.specs.Quoted.{state_of, action_of}
use Rattle.sp_rows.proofs.ByteByByte.{one_more, last_one, ends_or_not}
use Rattle.sp_rows.proofs.quoted.has_record.Goals as goal

pub loop-byte-init : goal.loop-byte-init
loop-byte-init c = ([], [], refl)

pub returns-then-is_end : goal.returns-then-is_end
returns-then-is_end c =
    let bytes = c.args.bytes.now in
    let place = c.loop-byte.byte-index in
    let byte = get_or bytes place 0 in
    let cells = c.loop-byte.invariant.0 in
    let cell = c.loop-byte.invariant.1 in
    let act = action_of c.step-next.result.1 in
    let ends : is_end act ≡ true = sym c.is_end.ensures ∙ c.if-is_end.true in
    sym (ap (λ (o : Option Read). is_some o)
    (sym c.loop-byte.invariant.2
    ∙ ap (next_record default_config (state_of c.loop-byte.at) cells cell) (drop_more bytes place 0 c.loop-byte-test.true)
    ∙ last_one default_config (state_of c.loop-byte.at) (state_of c.step-next.result.0) act cells cell byte (drop (place + 1) bytes) c.step-next.ensures (fields_after act cells cell) ends refl))

pub loop-byte-preserved : goal.loop-byte-preserved
loop-byte-preserved c =
    let bytes = c.args.bytes.now in
    let place = c.loop-byte.byte-index in
    let byte = get_or bytes place 0 in
    let cells = c.loop-byte.invariant.0 in
    let cell = c.loop-byte.invariant.1 in
    let act = action_of c.step-next.result.1 in
    let goes_on : is_end act ≡ false = sym c.is_end.ensures ∙ c.if-is_end.false in (
      fields_after act cells cell,
      field_after act byte cell,
      one_more default_config (state_of c.loop-byte.at) (state_of c.step-next.result.0) act cells cell byte (drop (place + 1) bytes) c.step-next.ensures (fields_after act cells cell) (field_after act byte cell) goes_on refl refl
          ∙ ap (next_record default_config (state_of c.loop-byte.at) cells cell) (sym (drop_more bytes place 0 c.loop-byte-test.true))
          ∙ c.loop-byte.invariant.2,
    )

pub returns : goal.returns
returns c =
    let cells = c.loop-byte.invariant.0 in
    let cell = c.loop-byte.invariant.1 in
    c.ends_record.ensures
    ∙ ends_or_not default_config (state_of c.loop-byte.at) cells cell
    ∙ ap (λ (o : Option Read). is_some o)
    (ap (next_record default_config (state_of c.loop-byte.at) cells cell) (sym (drop_all c.loop-byte.byte-index c.args.bytes.now c.loop-byte-test.false))
    ∙ c.loop-byte.invariant.2)
