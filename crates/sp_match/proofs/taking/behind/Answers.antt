use Rattle.std.proofs.Common.{sym, subst}
use Rattle.std.specs.List.{All}
use Rattle.std.proofs.lemmas.List.Elements.{All-get_or}
use Rattle.sp_plan.specs.declared.plan.Element.TheVariants.{One}
use Rattle.sp_match.specs.inside.Good.{IsNamed}
use Rattle.sp_match.proofs.ElementsAreNamed.{elements_named}
use Rattle.sp_match.proofs.taking.behind.Goals as goal

pub names-requires : goal.names-requires
names-requires c =
    let es = c.as_slice-elements.result.now in
    All-get_or IsNamed es c.loop-i.i (One 0) c.loop-i-test.true (subst (All IsNamed) (sym c.as_slice-elements.ensures) (elements_named c.args.plan.now c.requires.compiled))

pub is_filled-requires-clause-named : goal.is_filled-requires-clause-named
is_filled-requires-clause-named c =
    let es = c.as_slice-elements.result.now in
    All-get_or IsNamed es c.loop-i.i (One 0) c.loop-i-test.true (subst (All IsNamed) (sym c.as_slice-elements.ensures) (elements_named c.args.plan.now c.requires.compiled))
