use Rattle.sp_scan.proofs.MaskedNames.{Leads}
use Rattle.sp_scan.proofs.ahead.leading.Given as goal

abbrev pub invariant-loop-element : goal.invariant-loop-element
invariant-loop-element l = Leads l.all l.elements l.element-index
