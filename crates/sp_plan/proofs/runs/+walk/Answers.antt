use Rattle.std.proofs.Common.{rules, ◌≡◌, ℕ, ◌&&◌, Bool, List, map, arith, length-append}
use Rattle.sp_plan.specs.declared.plan.Pred.{Pred}
use Rattle.sp_plan.specs.Held.{held_sides}
use Rattle.sp_plan.specs.Masks.{has, outcome}
use Rattle.sp_plan.specs.Values.{BoundEvents}
use Rattle.sp_plan.proofs.MaskBits.{after_and, after_or, ends, ends_not, ends_true}
use Rattle.sp_plan.proofs.Sizes.{in_and, in_or}
use Rattle.sp_plan.proofs.runs.+walk.Goals as goal

pub returns-in-Always-clause-holds : goal.returns-in-Always-clause-holds
returns-in-Always-clause-holds g t c = λ run within.
    ends_true c.loop-rest.won c.loop-rest.undecided run _ (rw c.in-Always.is at (c.loop-rest.invariant.comes run within))

pub returns-in-Test-clause-holds : goal.returns-in-Test-clause-holds
returns-in-Test-clause-holds g t c = λ run within.
    ends c.loop-rest.won c.loop-rest.undecided c.tested-mask.result.0 run _ _ (rw c.in-Test.is at (c.loop-rest.invariant.comes run within)) (c.tested-mask.ensures.holds run within)

pub loop-rest-preserved-in-And : goal.loop-rest-preserved-in-And
loop-rest-preserved-in-And g t c =
    let bounds : List BoundEvents = map g.R.Binds.binds c.args.asking.now.runs.now in
    let says : Pred → ℕ → Bool = λ p run. outcome p c.args.asking.now.event.now bounds run in
    record {
      within = search rules;
      held = search rules;
      comes = λ run within.
          let is : has c.walk-mask.result.0 run ≡ (has c.loop-rest.undecided run && says c.in-And.right.value run) = rw c.deref.ensures at (c.walk-mask.ensures.holds run within) in
          rw c.deref-rest.ensures (after_and c.loop-rest.won c.loop-rest.undecided c.walk-mask.result.0 run _ (says c.in-And.left.value run) (says c.in-And.right.value run) (rw c.in-And.is at (c.loop-rest.invariant.comes run within)) is);
      behind =
          let total = rw c.in-And.is at c.loop-rest.invariant.behind in
          let place = rw c.deref.ensures at c.walk-mask.ensures.behind in
          let both = length-append (held_sides c.in-And.right.value) (held_sides c.in-And.left.value) in
          rw c.deref-rest.ensures (omega arith);
      shallow = let before = rw c.in-And.is at c.loop-rest.invariant.shallow in let falls = in_and c.in-And.left c.in-And.right in rw c.deref-rest.ensures (omega arith);
    }

pub loop-rest-preserved : goal.loop-rest-preserved
loop-rest-preserved g t c =
    let bounds : List BoundEvents = map g.R.Binds.binds c.args.asking.now.runs.now in
    let says : Pred → ℕ → Bool = λ p run. outcome p c.args.asking.now.event.now bounds run in
    record {
      within = search rules;
      held = search rules;
      comes = λ run within.
          let is : has c.walk-mask-in-Or.result.0 run ≡ (has c.loop-rest.undecided run && says c.in-Or.right.value run) = rw c.deref-in-Or.ensures at (c.walk-mask-in-Or.ensures.holds run within) in
          rw c.deref-rest-in-Or.ensures (after_or c.loop-rest.won c.loop-rest.undecided c.walk-mask-in-Or.result.0 run _ (says c.in-Or.left.value run) (says c.in-Or.right.value run) (search rules) (omega arith) (rw c.in-Or.is at (c.loop-rest.invariant.comes run within)) is);
      behind =
          let total = rw c.in-Or.is at c.loop-rest.invariant.behind in
          let place = rw c.deref-in-Or.ensures at c.walk-mask-in-Or.ensures.behind in
          let both = length-append (held_sides c.in-Or.right.value) (held_sides c.in-Or.left.value) in
          rw c.deref-rest-in-Or.ensures (omega arith);
      shallow = let before = rw c.in-Or.is at c.loop-rest.invariant.shallow in let falls = in_or c.in-Or.left c.in-Or.right in rw c.deref-rest-in-Or.ensures (omega arith);
    }

pub returns-in-Not-clause-holds : goal.returns-in-Not-clause-holds
returns-in-Not-clause-holds g t c = λ run within.
    let bounds : List BoundEvents = map g.R.Binds.binds c.args.asking.now.runs.now in
    let inner : Bool = outcome c.in-Not.inner.value c.args.asking.now.event.now bounds run in
    let is : has c.walk-mask-in-Not.result.0 run ≡ (has c.loop-rest.undecided run && inner) = rw c.deref-in-Not.ensures at (c.walk-mask-in-Not.ensures.holds run within) in
    ends_not c.loop-rest.won c.loop-rest.undecided c.walk-mask-in-Not.result.0 run _ inner (search rules) (omega arith) (rw c.in-Not.is at (c.loop-rest.invariant.comes run within)) is
