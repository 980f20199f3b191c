use Rattle.sp_listing.specs.Listing.{seen}
use Rattle.sp_cert.specs.Checking.{StandsAlone}
use Rattle.sp_cert.proofs.Chunks.{Counted}
use Rattle.sp_cert.proofs.gather.alone_by_threads.Given as goal

abbrev pub invariant-loop-count : goal.invariant-loop-count
invariant-loop-count g l = Counted (λ proof. StandsAlone l.plan l.events l.windows.ended (seen proof)) l.proofs l.size l.count-index l.total
