use Rattle.std.proofs.Common.{◌≡◌, map, take, length}
use Rattle.std.specs.List.{sum}
use Rattle.sp_group.specs.Family.{entry_at}
use Rattle.sp_tree.specs.Grown.{kin}
use Rattle.sp_core.proofs.HeldByIds.{counted}
use Rattle.sp_core.proofs.rooms.held_by.Given as goal

abbrev pub invariant-loop-id : goal.invariant-loop-id
invariant-loop-id l = record {
  matches : l.matches ≡ sum (map (λ id. counted (λ e. length e.value.copies.items) (entry_at kin l.tree.entries id)) (take l.id-index l.id-items));
  numbers : l.numbers ≡ sum (map (λ id. counted (λ e. length e.value.used.list) (entry_at kin l.tree.entries id)) (take l.id-index l.id-items));
}
