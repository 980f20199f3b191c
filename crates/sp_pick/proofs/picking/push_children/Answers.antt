use Rattle.std.proofs.Common.{ℕ, arith, ◌++◌, List, IsPermutation, map, sym, subst, ◌∙◌}
use Rattle.std.specs.BinaryHeap.{heap_items}
use Rattle.std.proofs.lemmas.List.{append-nil, take_all}
use Rattle.std.proofs.lemmas.List.Sorted.{IsPermutation-refl}
use Rattle.sp_chance.specs.Shares.{share_of}
use Rattle.sp_pick.specs.declared.picking.Rank.{Rank}
use Rattle.sp_pick.specs.Ranks.{rank_in}
use Rattle.sp_pick.proofs.Descending.{under_rank, pushed, same_rank}
use Rattle.sp_pick.proofs.picking.push_children.Goals as goal

pub loop-id-init : goal.loop-id-init
loop-id-init g c = record {
  children = subst (λ (l : List Rank). IsPermutation l (heap_items c.args.waiting.now)) (sym (append-nil (heap_items c.args.waiting.now)))
      (IsPermutation-refl (heap_items c.args.waiting.now));
  heap = λ h. h;
}

pub child_share-requires-clause-child : goal.child_share-requires-clause-child
child_share-requires-clause-child g c =
    (under_rank (share_of c.args.chances.now) c.args.tree.now.entries c.args.tree.now.next c.live.ensures.grown.fall c.live.ensures.grown.rooted
    c.are_parts.ensures.most
    c.args.above c.deref-id-items.result.now c.loop-id.id-index c.requires (c.deref-id-items.ensures.value ∙ c.in_ok-children.ensures)
    c.loop-id-test.true).child

pub child_share-requires-clause-share : goal.child_share-requires-clause-share
child_share-requires-clause-share g c =
    c.new.ensures
    ∙ (under_rank (share_of c.args.chances.now) c.args.tree.now.entries c.args.tree.now.next c.live.ensures.grown.fall c.live.ensures.grown.rooted
    c.are_parts.ensures.most
    c.args.above c.deref-id-items.result.now c.loop-id.id-index c.requires (c.deref-id-items.ensures.value ∙ c.in_ok-children.ensures)
    c.loop-id-test.true).share

pub overflow_add-rank : goal.overflow_add-rank
overflow_add-rank g c =
    let u =
    under_rank (share_of c.args.chances.now) c.args.tree.now.entries c.args.tree.now.next c.live.ensures.grown.fall c.live.ensures.grown.rooted
    c.are_parts.ensures.most
    c.args.above c.deref-id-items.result.now c.loop-id.id-index c.requires (c.deref-id-items.ensures.value ∙ c.in_ok-children.ensures)
    c.loop-id-test.true in
    let few = u.few in
    let live = c.live.ensures.live in
    let fits = c.live.type_inv in
    omega arith

pub loop-id-preserved : goal.loop-id-preserved
loop-id-preserved g c =
    let u =
    under_rank (share_of c.args.chances.now) c.args.tree.now.entries c.args.tree.now.next c.live.ensures.grown.fall c.live.ensures.grown.rooted
    c.are_parts.ensures.most
    c.args.above c.deref-id-items.result.now c.loop-id.id-index c.requires (c.deref-id-items.ensures.value ∙ c.in_ok-children.ensures)
    c.loop-id-test.true in
    let deep = u.depth in
    let share = c.get-survival.ensures.parts ∙ c.child_share.ensures in
    record {
      children =
          pushed (rank_in (share_of c.args.chances.now) c.args.tree.now.entries) (heap_items c.args.waiting.now) (heap_items c.loop-id.waiting)
          (heap_items c.put.new.waiting)
          c.deref-id-items.result.now c.loop-id.id-index _ (same_rank _ _ _ _ _ (omega arith) (omega arith))
          c.loop-id-test.true c.loop-id.invariant.children
          c.in_ok-put.ensures.permutation;
      heap = λ h. c.in_ok-put.ensures.heap (c.loop-id.invariant.heap h);
    }

pub returns : goal.returns
returns g c = record {
  children =
      subst
      (λ (l : List ℕ). IsPermutation (heap_items c.args.waiting.now ++ map (rank_in (share_of c.args.chances.now) c.args.tree.now.entries) l)
      (heap_items c.loop-id.waiting))
      (take_all c.loop-id.id-index c.deref-id-items.result.now c.loop-id-test.false ∙ c.deref-id-items.ensures.value ∙ c.in_ok-children.ensures)
      c.loop-id.invariant.children;
  heap = c.loop-id.invariant.heap;
}
