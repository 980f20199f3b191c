use Rattle.std.proofs.Common.{◌≡◌, ◌≤◌, length, map, take, vec_len, vec_capacity}
use Rattle.sp_tree.proofs.version.ids_of.Given as goal

abbrev pub invariant-loop-version : goal.invariant-loop-version
invariant-loop-version l = record {
  items : l.ids.items ≡ map (λ v. v.id) (take l.version-index l.versions);
  len : vec_len l.ids ≡ l.version-index;
  room : length l.versions ≤ vec_capacity l.ids;
}
