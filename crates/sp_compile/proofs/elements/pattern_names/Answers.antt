use Rattle.std.proofs.Common.{◌≡◌, ◌++◌, ◌∙◌, take, map}
use Rattle.std.proofs.lemmas.List.{take_all}
use Rattle.sp_compile.specs.Scopes.{in_element, names_in, is_negated, placed_names}
use Rattle.sp_compile.proofs.Placed.{more_names}
use Rattle.sp_compile.proofs.elements.pattern_names.Goals as goal

pub loop-number-preserved : goal.loop-number-preserved
loop-number-preserved c =
    let elements = c.args.elements.now in
    let number = c.loop-number.number in
    let element = c.index-elements-number.result in
    let named = c.names_in-name-items.result.now in
    let whole : take c.loop-name.name-index named ≡ names_in element = take_all c.loop-name.name-index named c.loop-name-test.false ∙ c.names_in-name-items.ensures in
    let grown : c.loop-name.names.items ≡ c.loop-number.names.items ++ map (in_element number (is_negated element)) (names_in element) =
    c.loop-name.invariant ∙ (λ i. c.loop-number.names.items ++ map (in_element number (c.is_negated-negated.ensures i)) (whole i)) in
    more_names elements number element c.loop-number-test.true c.index-elements-number.is c.loop-number.names.items c.loop-name.names.items (placed_names 0 elements) c.loop-number.invariant grown
