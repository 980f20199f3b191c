use Rattle.std.specs.BinaryHeap.{heap_items}
use Rattle.sp_chance.specs.Shares.{share_of}
use Rattle.sp_pick.proofs.Walked.{IsWalked}
use Rattle.sp_pick.proofs.picking.pick.Given as goal

abbrev pub invariant-loop : goal.invariant-loop
invariant-loop g l = IsWalked (share_of l.chances) l.tree.entries l.ids.items l.k l.counter l.left l.picked.items (heap_items l.waiting)
