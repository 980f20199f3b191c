use Rattle.std.proofs.Common.{map}
use Rattle.std.specs.Arc.{arc_value}
use Rattle.sp_listing.specs.Listing.{seen}
use Rattle.sp_cert.proofs.Making.{Proving}
use Rattle.sp_cert.proofs.proving.prove.Given as goal

abbrev pub invariant-loop-count : goal.invariant-loop-count
invariant-loop-count l = Proving (arc_value l.fn.plan) l.events l.ended l.fn.matches.items l.count (map seen l.proofs.items) l.rest.items l.consumed.items
