use Rattle.std.proofs.Common.{length, map}
use Rattle.sp_listing.specs.Listing.{seen}
use Rattle.sp_listing.proofs.Going.{Going}
use Rattle.sp_listing.proofs.read.read_listing.Given as goal

abbrev pub invariant-lines : goal.invariant-lines
invariant-lines l = Going l.plan l.text l.rest (map seen l.proofs.items) l.number

abbrev pub decreases-lines : goal.decreases-lines
decreases-lines l = length l.rest
