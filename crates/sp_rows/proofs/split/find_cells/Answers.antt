use Rattle.std.proofs.Common.{◌≡◌, true, false, get_or, drop, ◌+◌, subst, rules}
use Rattle.std.proofs.lemmas.List.{take_all, drop_more}
use Rattle.std.proofs.lemmas.List.Elements.{All-more}
use Rattle.sp_rows.specs.Plain.{is_break, HasNoBreak}
use Rattle.sp_rows.proofs.Pieces.{one_more_byte, last_place}
use Rattle.sp_rows.proofs.split.find_cells.Goals as goal

pub loop-place-preserved : goal.loop-place-preserved
loop-place-preserved c =
    let row = c.args.row.now in
    let place = c.loop-place.place in
    let byte = get_or row place 0 in
    let may : c.in_ok-take_byte.field-0 ≡ true = search rules in
    record {
      places = one_more_byte c.loop-place.nexts.items c.take_byte.new.nexts.items _ (drop place row) (drop (place + 1) row) place byte c.in_ok-take_byte.ensures.commas (drop_more row place 0 c.loop-place-test.true) c.loop-place.invariant.places;
      none = All-more (λ b. is_break b ≡ false) row place 0 c.loop-place-test.true c.loop-place.invariant.none (c.in_ok-take_byte.ensures.other may);
    }

pub returns-clause-places : goal.returns-clause-places
returns-clause-places c _ =
    last_place c.args.row.now c.loop-place.nexts.items c.push.new.self.items _ c.loop-place.place c.loop-place-test.false c.loop-place.auto.place-end c.in_ok-push.ensures.items c.loop-place.invariant.places

pub returns-clause-none : goal.returns-clause-none
returns-clause-none c _ = subst HasNoBreak (take_all c.loop-place.place c.args.row.now c.loop-place-test.false) c.loop-place.invariant.none
