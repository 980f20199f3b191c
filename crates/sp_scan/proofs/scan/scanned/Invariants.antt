use Rattle.sp_scan.proofs.ReadsOn.{Scanning}
use Rattle.sp_scan.proofs.scan.scanned.Given as goal

abbrev pub invariant-loop-place : goal.invariant-loop-place
invariant-loop-place l = Scanning l.fn.plan l.fn.events l.fn.skipped.list l.fn.first l.fn.last l.place l.runs
