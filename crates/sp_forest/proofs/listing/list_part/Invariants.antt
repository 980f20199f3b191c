use Rattle.std.proofs.Common.{◌≡◌, ◌++◌, length, map}
use Rattle.sp_forest.specs.Numbering.{numbered_up}
use Rattle.sp_forest.proofs.listing.list_part.Given as goal

abbrev pub invariant-loop-one : goal.invariant-loop-one
invariant-loop-one l = record {
  listed : l.all.items ≡ l.initial.all.items ++ map (numbered_up (length l.initial.all.items)) l.yielded;
  all : l.yielded ++ l.one-iterator.rest.items ≡ l.fn.found.items;
}
