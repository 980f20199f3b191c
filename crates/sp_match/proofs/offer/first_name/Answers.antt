use Rattle.std.proofs.Common.{◌<◌, length, sym, subst, ◌∙◌, rules}
use Rattle.std.specs.List.{All}
use Rattle.std.proofs.lemmas.List.Elements.{All-get_or}
use Rattle.sp_plan.specs.declared.plan.Element.TheVariants.{One}
use Rattle.sp_plan.specs.Compiled.{IsFirst, IsSetOfMany}
use Rattle.sp_match.specs.inside.Good.{IsNamed}
use Rattle.sp_match.proofs.BeginningIsTaken.{begins_with}
use Rattle.sp_match.proofs.ElementsAreNamed.{elements_named}
use Rattle.sp_match.proofs.offer.first_name.Goals as goal

pub first_of-requires-clause-named : goal.first_of-requires-clause-named
first_of-requires-clause-named c =
    let elements = c.as_slice-elements.result.now in
    let some : 0 < length elements = search rules in
    All-get_or IsNamed elements 0 (One 0) some (subst (All IsNamed) (sym c.as_slice-elements.ensures) (elements_named c.args.plan.now c.requires.compiled))

pub returns : goal.returns
returns c =
    let q = c.args.plan.now in
    let elements = c.as_slice-elements.result.now in
    let some : 0 < length elements = search rules in
    c.first_of.ensures ∙ begins_with q c.args.event.now elements (One 0) (sym c.as_slice-elements.ensures) some (subst IsFirst (sym c.as_slice-elements.ensures) c.requires.compiled.first) (subst (All IsSetOfMany) (sym c.as_slice-elements.ensures) c.requires.compiled.sets)
