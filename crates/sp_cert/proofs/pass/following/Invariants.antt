use Rattle.std.proofs.Common.{map}
use Rattle.sp_listing.specs.Listing.{seen}
use Rattle.sp_cert.proofs.Passing.{Passed}
use Rattle.sp_cert.proofs.pass.following.Given as goal

abbrev pub invariant-loop-place : goal.invariant-loop-place
invariant-loop-place l = Passed (map seen l.proofs) l.place l.consumed.items l.events l.matches
