use Rattle.std.proofs.Common.{◌-◌, drop, length, sym, ap, subst, arith}
use Rattle.std.specs.List.{All}
use Rattle.std.proofs.lemmas.List.{length-drop, length-take}
use Rattle.std.proofs.lemmas.List.Elements.{All-drop, All-take}
use Rattle.sp_match.specs.inside.Good.{IsNamed}
use Rattle.sp_match.proofs.ElementsAreNamed.{elements_named}
use Rattle.sp_match.proofs.GuardsAreNumbered.{few_elements}
use Rattle.sp_match.proofs.taking.guards_behind.Goals as goal

pub leading-requires-clause-named : goal.leading-requires-clause-named
leading-requires-clause-named c =
    let es = c.as_slice.result.now in
    let place = c.behind-place.result in
    All-take IsNamed (length es - place) (drop place es) (All-drop IsNamed place es (subst (All IsNamed) (sym c.as_slice.ensures) (elements_named c.args.plan.now c.requires.compiled)))

pub leading-requires-clause-few : goal.leading-requires-clause-few
leading-requires-clause-few c =
    let es = c.as_slice.result.now in
    let place = c.behind-place.result in
    let few = few_elements c.args.plan.now c.requires.compiled in
    let same = ap length c.as_slice.ensures in
    omega (arith, few, same, length-take (length es - place) (drop place es), length-drop place es)
