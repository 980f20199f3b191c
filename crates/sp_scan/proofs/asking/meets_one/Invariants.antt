use Rattle.std.proofs.Common.{◌≡◌, drop}
use Rattle.std.specs.List.{list_any}
use Rattle.sp_plan.specs.Runs.{leading, name_holds}
use Rattle.sp_scan.proofs.asking.meets_one.Given as goal

abbrev pub invariant-loop-element : goal.invariant-loop-element
invariant-loop-element l =
    list_any (name_holds l.offer.plan.now l.pairs l.offer.event.now) (leading l.elements) ≡ list_any (name_holds l.offer.plan.now l.pairs l.offer.event.now) (leading (drop l.element-index l.elements))
