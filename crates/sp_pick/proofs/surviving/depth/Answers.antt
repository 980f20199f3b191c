use Rattle.std.proofs.Common.{arith, ◌≡◌, ℕ, ◌+◌, ◌<◌}
use Rattle.sp_pick.specs.Picking.{depth_in}
use Rattle.sp_pick.proofs.Standing.{depth_within}
use Rattle.sp_pick.proofs.Climbing.{parent_step, root_flat}
use Rattle.sp_pick.proofs.surviving.depth.Goals as goal

pub overflow_add-depth : goal.overflow_add-depth
overflow_add-depth g c =
    let grown = c.live.ensures.grown in
    let es = c.args.tree.now.entries in
    let s = parent_step c.args.tree.now.next es grown.fall grown.rooted c.loop-parent.at c.in-Some.parent c.loop-parent.invariant.0 c.in-Some.ensures in
    let sum = c.loop-parent.invariant.1 in
    let deep = s.1 in
    let within = depth_within es c.args.id in
    let live = c.live.ensures.live in
    let fits = c.live.type_inv in
    omega arith

pub loop-parent-smaller : goal.loop-parent-smaller
loop-parent-smaller g c =
    let grown = c.live.ensures.grown in
    let s = parent_step c.args.tree.now.next c.args.tree.now.entries grown.fall grown.rooted c.loop-parent.at c.in-Some.parent c.loop-parent.invariant.0 c.in-Some.ensures in
    smaller (depth_in c.args.tree.now.entries c.loop-parent.at) (depth_in c.args.tree.now.entries c.in-Some.parent) s.1
  where
    smaller : (m n : ℕ) → m ≡ n + 1 → n < m
    smaller m n is = omega arith

pub loop-parent-preserved : goal.loop-parent-preserved
loop-parent-preserved g c =
    let grown = c.live.ensures.grown in
    let s = parent_step c.args.tree.now.next c.args.tree.now.entries grown.fall grown.rooted c.loop-parent.at c.in-Some.parent c.loop-parent.invariant.0 c.in-Some.ensures in
    (s.0, added c.loop-parent.depth _ _ _ c.loop-parent.invariant.1 s.1)
  where
    added : (depth m n d : ℕ) → depth + m ≡ d → m ≡ n + 1 → depth + 1 + n ≡ d
    added depth m n d is more = omega arith

pub returns : goal.returns
returns g c =
    let flat = root_flat c.args.tree.now.next c.args.tree.now.entries c.live.ensures.grown.fall c.live.ensures.grown.rooted c.loop-parent.at c.loop-parent.invariant.0 (c.in_default.ensures) in
    none c.loop-parent.depth _ _ c.loop-parent.invariant.1 flat
  where
    none : (depth m d : ℕ) → depth + m ≡ d → m ≡ 0 → depth ≡ d
    none depth m d is flat = omega arith
