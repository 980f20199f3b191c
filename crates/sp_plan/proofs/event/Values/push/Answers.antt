use Rattle.std.proofs.Common.{◌++◌, ◌∷◌, [], List, sym, ◌∙◌, ap, subst, arith}
use Rattle.sp_plan.specs.declared.event.Value.{Value}
use Rattle.sp_plan.specs.Kept.{listed, Counted}
use Rattle.sp_plan.proofs.Parts.{pushed, still_counted}
use Rattle.sp_plan.proofs.event.Values.push.Goals as goal

pub invariant_of-self-in-Few : goal.invariant_of-self-in-Few
invariant_of-self-in-Few c =
    let f = c.in-Few in
    let counted = subst Counted f.is c.self.invariant in
    subst Counted (sym c.put.ensures.kept) (still_counted f.count f.texts f.numbers counted c.args.value (omega arith) c.put.ensures.part)

pub returns-else-place-ge-FEW-clause-ok : goal.returns-else-place-ge-FEW-clause-ok
returns-else-place-ge-FEW-clause-ok c =
    let f = c.in-Few in
    let counted = subst Counted f.is c.self.invariant in
    ap listed c.put.ensures.kept
    ∙ pushed f.count f.texts f.numbers counted c.args.value (omega arith)
    ∙ ap (λ (l : List Value). l ++ c.args.value ∷ []) (ap listed (sym f.is) ∙ c.self.view_is)
