use Rattle.std.proofs.Common.{◌≡◌, ◌++◌, not, true, None, IfSome, sym, subst}
use Rattle.std.specs.List.{last_or}
use Rattle.std.proofs.lemmas.List.Elements.{All-append}
use Rattle.sp_plan.specs.Masks.{has}
use Rattle.sp_plan.specs.Runs.{again, is_filled, unbound}
use Rattle.sp_scan.specs.inside.Ahead.{AreIn, IsNamed}
use Rattle.sp_scan.proofs.MaskedNames.{again_few, lacking_in}
use Rattle.sp_scan.proofs.NamedElements.{elements_named, found_keeps}
use Rattle.sp_scan.proofs.ahead.look_ahead.Goals as goal

pub counting-requires-clause-element : goal.counting-requires-clause-element
counting-requires-clause-element c = subst (λ o. IfSome o IsNamed) (sym c.unfilled-element.ensures) (found_keeps IsNamed (λ element. not (is_filled c.args.pairs.now element)) c.args.plan.now.elements (elements_named c.args.plan.now c.requires))

pub counting-requires-clause-again : goal.counting-requires-clause-again
counting-requires-clause-again c = again_few c.args.plan.now.elements (last_or None c.args.pairs.now) c.again-again.result (elements_named c.args.plan.now c.requires) c.again-again.ensures

pub returns : goal.returns
returns c =
    let q = c.args.plan.now in
    let r = c.args.pairs.now in
    let mask = c.counting.result in
    let element = c.unfilled-element.result in
    record {
      element_is = c.unfilled-element.ensures;
      again_is = c.again-again.ensures;
      guards_are = c.guards-behind.ensures.guards;
      within = c.guards-behind.ensures.within;
      wanted_in = subst (λ o. AreIn mask (unbound r o ++ again q.elements (last_or None r))) c.unfilled-element.ensures
          (All-append (λ name. has mask name ≡ true) (unbound r element) (again q.elements (last_or None r)) (lacking_in mask r element c.counting.ensures.element) (subst (AreIn mask) c.again-again.ensures c.counting.ensures.again));
      guards_in = subst (AreIn mask) c.guards-behind.ensures.guards c.counting.ensures.guards;
    }
