use Rattle.std.proofs.Common.{rules, ◌≡◌, ℤ, pos, sym, ◌∙◌, true, List, length, ap, subst, map, string_bytes, to_z, of_z}
use Rattle.std.specs.List.{list_any}
use Rattle.std.specs.Int.{w128}
use Rattle.std.proofs.lemmas.Int.{to_z-of_z}
use Rattle.sp_plan.specs.Values.{value}
use Rattle.sp_plan.specs.declared.plan.Column.{Column}
use Rattle.sp_graph.specs.Derived.{given, given_in, is_past, nothing, renumbered, value_of}
use Rattle.sp_graph.specs.Answers.{IsPlaced}
use Rattle.sp_graph.proofs.Givens.{one_past, one_within, one_placed, all_given, put_in, left_out}
use Rattle.sp_graph.proofs.outcome.event_of.Goals as goal

pub returns-in_default-clause-event : goal.returns-in_default-clause-event
returns-in_default-clause-event c =
    let cs = c.as_slice-columns.result.now in
    let rs = c.args.layout.now.returns.now in
    let count : length rs ≡ length cs = c.requires.count ∙ ap length (sym c.as_slice-columns.ensures) in
    let b = c.args.bound.now in
    let texts = map string_bytes c.args.layout.now.texts.now in
    let column = c.index-columns-place.result in
    let expr = c.index-layout-place.result in
    let itself : to_z w128 (of_z w128 c.value-number.result) ≡ c.value-number.result = search (rules, to_z-of_z) in
    let is : to_z w128 (of_z w128 c.value-number.result) ≡ value expr nothing b =
    itself ∙ c.value-number.ensures.value ∙ (λ j. value (sym c.index-layout-place.is j) (c.requires.none j) b) in
    let placed = subst (λ (n : ℤ). IsPlaced texts c.loop-place.table.known (value_of column.kind n) c.in_ok-own.field-0 c.place_value.new.table.known) is c.in_ok-own.ensures.value in
    subst (λ (columns : List Column). list_any is_past (given columns rs b) ≡ true) c.as_slice-columns.ensures
    (one_past cs rs b c.loop-place.place column expr count c.loop-place-test.true c.index-columns-place.is c.index-layout-place.is
    (left_out texts c.loop-place.table.known c.place_value.new.table.known (given_in b (column, expr)) c.in_ok-own.field-0 placed c.in_default.is))

pub loop-place-preserved : goal.loop-place-preserved
loop-place-preserved c =
    let cs = c.as_slice-columns.result.now in
    let rs = c.args.layout.now.returns.now in
    let count : length rs ≡ length cs = c.requires.count ∙ ap length (sym c.as_slice-columns.ensures) in
    let b = c.args.bound.now in
    let texts = map string_bytes c.args.layout.now.texts.now in
    let column = c.index-columns-place.result in
    let expr = c.index-layout-place.result in
    let own = given_in b (column, expr) in
    let itself : to_z w128 (of_z w128 c.value-number.result) ≡ c.value-number.result = search (rules, to_z-of_z) in
    let is : to_z w128 (of_z w128 c.value-number.result) ≡ value expr nothing b =
    itself ∙ c.value-number.ensures.value ∙ (λ j. value (sym c.index-layout-place.is j) (c.requires.none j) b) in
    let placed = subst (λ (n : ℤ). IsPlaced texts c.loop-place.table.known (value_of column.kind n) c.in_ok-own.field-0 c.place_value.new.table.known) is c.in_ok-own.ensures.value in
    let put = put_in texts c.loop-place.table.known c.place_value.new.table.known own c.in_ok-own.field-0 c.in-Some.own placed c.in-Some.is in
    record {
      table = c.in_ok-own.ensures.table;
      within = one_within cs rs b c.loop-place.place column expr count c.loop-place-test.true c.index-columns-place.is c.index-layout-place.is c.loop-place.invariant.within put.0;
      values =
          (λ j. (c.in_ok-push.ensures.ok j, c.place_value.new.table.known))
          ∙ one_placed cs rs b c.loop-place.place column expr count c.loop-place-test.true c.index-columns-place.is c.index-layout-place.is
          texts c.args.table.now.known c.loop-place.table.known c.place_value.new.table.known c.loop-place.values c.in-Some.own c.loop-place.invariant.values put.1;
    }

pub returns-clause-event : goal.returns-clause-event
returns-clause-event c =
    let cs = c.as_slice-columns.result.now in
    let rs = c.args.layout.now.returns.now in
    let count : length rs ≡ length cs = c.requires.count ∙ ap length (sym c.as_slice-columns.ensures) in
    let b = c.args.bound.now in
    let texts = map string_bytes c.args.layout.now.texts.now in
    let same : given cs rs b ≡ given c.args.layout.now.second.now.schema.columns rs b = ap (λ (columns : List Column). given columns rs b) c.as_slice-columns.ensures in
    let all = all_given cs rs b c.loop-place.place count c.loop-place-test.false ∙ same in (
      ap (list_any is_past) (sym all) ∙ c.loop-place.invariant.within,
      (λ j.
          let made = (c.loop-place.invariant.values ∙ ap (renumbered texts c.args.table.now.known) all) j in
          (record { time = pos 0; values = made.0 }, made.1)),
    )
