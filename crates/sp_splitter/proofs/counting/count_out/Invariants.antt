use Rattle.std.proofs.Common.{◌≡◌, ◌≤◌, map, take, cond, is_some}
use Rattle.std.specs.List.{sum}
use Rattle.sp_group.specs.Family.{entry_at}
use Rattle.sp_tree.specs.Grown.{kin}
use Rattle.sp_core.proofs.HeldByIds.{counted}
use Rattle.sp_splitter.proofs.counting.count_out.Given as goal

abbrev pub invariant-loop-id : goal.invariant-loop-id
invariant-loop-id l = record {
  counts : l.out ≡ sum (map (λ id. counted (λ e. cond (is_some e.value.out) 1 0) (entry_at kin l.tree.entries id)) (take l.id-index l.id-items));
  few : l.out ≤ l.id-index;
}
