use Rattle.std.proofs.Common.{take}
use Rattle.std.specs.List.{All}
use Rattle.sp_listing.specs.Listing.{seen}
use Rattle.sp_cert.specs.Checking.{StandsAlone}
use Rattle.sp_cert.proofs.local.alone.Given as goal

abbrev pub invariant-loop-place : goal.invariant-loop-place
invariant-loop-place l = All (λ proof. StandsAlone l.plan l.events l.windows.ended (seen proof)) (take l.place l.proofs)
