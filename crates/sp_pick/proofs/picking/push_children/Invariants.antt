use Rattle.std.proofs.Common.{◌++◌, IsPermutation, map, take}
use Rattle.std.specs.BinaryHeap.{heap_items, KeepsHeap}
use Rattle.sp_chance.specs.Shares.{share_of}
use Rattle.sp_pick.specs.Ranks.{rank_cmp, rank_in}
use Rattle.sp_pick.proofs.picking.push_children.Given as goal

abbrev pub invariant-loop-id : goal.invariant-loop-id
invariant-loop-id g l = record {
  children : IsPermutation (heap_items l.initial.waiting ++ map (rank_in (share_of l.chances) l.tree.entries) (take l.id-index l.id-items))
      (heap_items l.waiting);
  heap : KeepsHeap rank_cmp (heap_items l.initial.waiting) (heap_items l.waiting);
}
