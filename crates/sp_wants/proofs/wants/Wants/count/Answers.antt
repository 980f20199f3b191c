use Rattle.std.proofs.Common.{◌≡◌, ℕ, min, List, length, take, ap, ◌∙◌, arith, take_all}
use Rattle.sp_wants.specs.Stretches.{all_pairs}
use Rattle.sp_wants.proofs.Stretched.{more_counted}
use Rattle.sp_wants.proofs.wants.Wants.count.Goals as goal

pub loop-stretch-preserved : goal.loop-stretch-preserved
loop-stretch-preserved c =
    let was = c.loop-stretch.invariant in
    let one = more_counted c.deref-stretch-items.result.now c.loop-stretch.stretch-index (record { before = 0; after = 0; times = 0 }) c.loop-stretch-test.true in
    let added = c.saturating_add-count.ensures in
    omega (arith, was, one, added)

pub returns : goal.returns
returns c =
    let was = c.loop-stretch.invariant in
    let all : take c.loop-stretch.stretch-index c.deref-stretch-items.result.now ≡ c.deref-stretch-items.result.now = take_all c.loop-stretch.stretch-index c.deref-stretch-items.result.now c.loop-stretch-test.false in
    let is : all_pairs (take c.loop-stretch.stretch-index c.deref-stretch-items.result.now) ≡ c.args.self.now = ap all_pairs (all ∙ c.deref-stretch-items.ensures.value) ∙ c.self.view_is in
    was ∙ ap (λ (l : List (ℕ × ℕ)). min (length l) 18446744073709551615) is
