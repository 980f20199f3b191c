use Rattle.std.proofs.Common.{length, map}
use Rattle.sp_forest.specs.Numbering.{numbered_from}
use Rattle.sp_forest.proofs.ListOn.{ListedSoFar}
use Rattle.sp_forest.proofs.listing.list_parts.Given as goal

abbrev pub invariant-loop-own : goal.invariant-loop-own
invariant-loop-own l =
    ListedSoFar (numbered_from (length l.initial.all.items) (map (λ own. own.items) l.fn.found.items)) l.initial.all.items l.all.items (map (λ own. own.items) l.own-iterator.rest.items)
