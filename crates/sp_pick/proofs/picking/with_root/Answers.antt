use Rattle.std.proofs.Common.{◌∷◌, List, IsPermutation, sym, ap, subst, ◌∙◌}
use Rattle.std.specs.BinaryHeap.{heap_items}
use Rattle.sp_base.specs.Limits.{whole_share}
use Rattle.sp_chance.specs.Shares.{share_of}
use Rattle.sp_pick.specs.declared.picking.Rank.{Rank}
use Rattle.sp_pick.proofs.Descending.{root_ranks}
use Rattle.sp_pick.proofs.picking.with_root.Goals as goal

pub returns : goal.returns
returns g c = record {
  root =
      subst (λ (l : List Rank). IsPermutation l (heap_items c.put.new.waiting))
      (ap (λ (l : List Rank). record { survival = whole_share; depth = record { 0 = 0 }; id = record { 0 = c.in-Some.root } } ∷ l)
      c.new-waiting.ensures.items
      ∙ sym (root_ranks (share_of c.args.chances.now) c.args.tree.now.entries c.args.tree.now.next c.live.ensures.grown.fall
      c.live.ensures.grown.rooted c.live.ensures.family.one_root
      c.in-Some.root c.in-Some.ensures.root))
      c.in_ok-put.ensures.permutation;
  heap = c.in_ok-put.ensures.heap c.new-waiting.ensures.heap_order;
}
