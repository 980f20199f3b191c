use Rattle.std.proofs.Common.{arith, ◌≡◌, ℕ, List, Vec, Global, length, filter, take, min, true, sym, ap, subst, ◌∙◌}
use Rattle.std.specs.BinaryHeap.{heap_items}
use Rattle.std.proofs.lemmas.List.{nil_from_length}
use Rattle.std.proofs.lemmas.List.Sorted.{All-permutation}
use Rattle.sp_chance.specs.Shares.{share_of}
use Rattle.sp_pick.proofs.Found.{live_in}
use Rattle.sp_pick.proofs.Sorting.{root_first}
use Rattle.sp_pick.proofs.Taken.{is_it, filled}
use Rattle.sp_pick.proofs.Walked.{IsWalked, line, walk_begins, walk_takes, walk_goes_on, ends_taken, ends_empty, ends_walked, picked}
use Rattle.sp_pick.proofs.picking.pick.Goals as goal
use Rattle.sp_pick.proofs.picking.pick.Goals.{else-loop-test, then-loop-test+in_default, then-loop-test+in-Some+in_ok-resize+then-left-eq0}

pub loop-init : goal.loop-init
loop-init g c =
    let least = c.min-left.ensures in
    let long = c.len.ensures in
    let fits = c.in_ok-ids.ids.ok in
    subst (λ (l : List ℕ). IsWalked (share_of c.args.chances.now) c.args.tree.now.entries c.in_ok-ids.ids.items c.args.k 0 c.min-left.result l
    (heap_items c.in_ok-waiting.waiting)) (sym c.in_ok-picked.ensures.items)
    (walk_begins (share_of c.args.chances.now) c.args.tree.now.entries c.args.tree.now.next c.live-end.ensures.grown.fall
    c.live-end.ensures.grown.rooted c.are_parts.ensures.most
    c.in_ok-ids.ids.items c.args.k c.min-left.result (heap_items c.in_ok-waiting.waiting) (omega arith) c.in_ok-waiting.ensures.root
    c.in_ok-waiting.ensures.heap)

pub loop-preserved : goal.loop-preserved
loop-preserved g c =
    let live = All-permutation (λ id. live_in c.args.tree.now.entries id ≡ true) c.args.ready.now c.in_ok-ids.ids.items
    c.in_ok-ids.ensures.permutation c.requires in
    let fits = c.loop.picked.ok in
    let long = c.len-in-loop.ensures in
    walk_goes_on (share_of c.args.chances.now) c.args.tree.now.entries c.args.tree.now.next c.live-end.ensures.grown.fall
    c.live-end.ensures.grown.rooted c.are_parts.ensures.most
    c.in_ok-ids.ids.items c.args.k c.loop.counter c.loop.left _ c.loop.picked.items c.resize.new.self.items (heap_items c.loop.waiting)
    (heap_items c.pop.new.self)
    (heap_items c.push_children.new.waiting) c.in-Some.rank c.loop.invariant
    (walk_takes (share_of c.args.chances.now) c.args.tree.now.entries c.args.tree.now.next c.live-end.ensures.grown.fall
    c.live-end.ensures.grown.rooted c.are_parts.ensures.most
    c.in_ok-ids.ids.items c.args.k c.loop.counter c.loop.left _ c.min-times.result c.loop.picked.items c.resize.new.self.items
    (heap_items c.loop.waiting) (heap_items c.pop.new.self)
    c.in-Some.rank c.loop.invariant live c.in-Some.ensures.permutation (c.in-Some.ensures.heap_order c.loop.invariant.heaped).1
    (c.min-times.ensures
    ∙ ap (λ n. min n c.loop.left) (c.times_in.ensures ∙ ap (λ (l : List ℕ). length (filter (is_it c.in-Some.rank.id.0) l)) c.deref.ensures.value))
    (omega arith)
    (filled c.loop.picked.items c.resize.new.self.items _ c.loop.picked.len c.min-times.result c.in-Some.rank.id.0 (omega arith) (omega arith)
    c.in_ok-resize.ensures.items))
    c.in-Some.ensures.permutation c.in_ok-push_children.ensures.children
    (c.in_ok-push_children.ensures.heap (c.in-Some.ensures.heap_order c.loop.invariant.heaped).0)

pub returns-clause-picked : goal.returns-clause-picked
returns-clause-picked g c =
    let live = All-permutation (λ id. live_in c.args.tree.now.entries id ≡ true) c.args.ready.now c.in_ok-ids.ids.items
    c.in_ok-ids.ensures.permutation c.requires in
    let first : c.loop-test.picked.items ≡ take c.args.k (line (share_of c.args.chances.now) c.args.tree.now.entries c.in_ok-ids.ids.items) =
    elim c.loop-test.branch [
      | else-loop-test w ↦
          let walked = w.loop-test.false in
          let all = c.live-end.ensures.live in
          ap (λ (v : Vec ℕ Global). v.items) w.picked-is
          ∙ ends_walked (share_of c.args.chances.now) c.args.tree.now.entries c.args.tree.now.next c.live-end.ensures.grown.fall
          c.live-end.ensures.grown.rooted c.are_parts.ensures.most
          c.in_ok-ids.ids.items c.args.k c.loop.counter c.loop.left c.loop.picked.items (heap_items c.loop.waiting) c.loop.invariant live
          (omega arith)
      | then-loop-test+in_default w ↦
          let none = w.in_default.ensures.none in
          let fits = c.loop.waiting.data.ok in
          ap (λ (v : Vec ℕ Global). v.items) w.picked-is
          ∙ ends_empty (share_of c.args.chances.now) c.args.tree.now.entries c.args.tree.now.next c.live-end.ensures.grown.fall
          c.live-end.ensures.grown.rooted c.are_parts.ensures.most
          c.in_ok-ids.ids.items c.args.k c.loop.counter c.loop.left c.loop.picked.items (heap_items c.loop.waiting) c.loop.invariant live
          (nil_from_length (heap_items c.loop.waiting) (omega arith))
      | then-loop-test+in-Some+in_ok-resize+then-left-eq0 w ↦
          let fits = c.loop.picked.ok in
          let long = w.len-in-loop.ensures in
          ap (λ (v : Vec ℕ Global). v.items) w.picked-is
          ∙ ends_taken (share_of c.args.chances.now) c.args.tree.now.entries c.args.tree.now.next c.live-end.ensures.grown.fall
          c.live-end.ensures.grown.rooted c.are_parts.ensures.most
          c.loop.invariant.out c.in_ok-ids.ids.items c.args.k _ w.resize.new.self.items w.in-Some.rank w.if-left-eq0.true
          (walk_takes (share_of c.args.chances.now) c.args.tree.now.entries c.args.tree.now.next c.live-end.ensures.grown.fall
          c.live-end.ensures.grown.rooted c.are_parts.ensures.most
          c.in_ok-ids.ids.items c.args.k c.loop.counter c.loop.left _ w.min-times.result c.loop.picked.items w.resize.new.self.items
          (heap_items c.loop.waiting) (heap_items w.pop.new.self)
          w.in-Some.rank c.loop.invariant live w.in-Some.ensures.permutation (w.in-Some.ensures.heap_order c.loop.invariant.heaped).1
          (w.min-times.ensures
          ∙ ap (λ n. min n c.loop.left)
          (w.times_in.ensures ∙ ap (λ (l : List ℕ). length (filter (is_it w.in-Some.rank.id.0) l)) w.deref.ensures.value))
          (omega arith)
          (filled c.loop.picked.items w.resize.new.self.items _ c.loop.picked.len w.min-times.result w.in-Some.rank.id.0 (omega arith) (omega arith)
          w.in_ok-resize.ensures.items))
    ] in
    picked (share_of c.args.chances.now) c.args.tree.now.entries c.args.ready.now c.in_ok-ids.ids.items c.args.k c.loop-test.picked.items
    c.in_ok-ids.ensures.permutation first

pub returns-clause-root : goal.returns-clause-root
returns-clause-root g c =
    root_first (share_of c.args.chances.now) c.args.tree.now.entries c.args.tree.now.next c.live-end.ensures.grown.fall
    c.live-end.ensures.grown.rooted c.are_parts.ensures.most
    c.args.ready.now c.args.k c.loop-test.picked.items (returns-clause-picked g c) c.requires
