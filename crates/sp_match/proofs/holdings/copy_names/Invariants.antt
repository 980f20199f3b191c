use Rattle.std.proofs.Common.{◌≡◌, ◌≤◌, length, take}
use Rattle.std.specs.Vec.{vec_capacity}
use Rattle.sp_match.specs.inside.Takers.{columns_of, masks_of, reads_of}
use Rattle.sp_match.proofs.holdings.copy_names.Given as goal

abbrev pub invariant-loop-name : goal.invariant-loop-name
invariant-loop-name l = record {
  masks : masks_of l.copies.items ≡ masks_of (take l.name-index l.names);
  columns : columns_of l.copies.items ≡ columns_of (take l.name-index l.names);
  reads : reads_of l.copies.items ≡ reads_of (take l.name-index l.names);
  size : length l.copies.items ≡ l.name-index;
  room : length l.names ≤ vec_capacity l.copies;
}
