use Rattle.std.proofs.Common.{◌≡◌, ℕ, ◌-◌, ◌∙◌, ap, subst, arith}
use Rattle.sp_plan.specs.declared.plan.Plan.{Plan}
use Rattle.sp_plan.specs.Windows.{closed}
use Rattle.sp_plan.specs.Sequential.{seq}
use Rattle.sp_seq.specs.Spans.{IsSwept}
use Rattle.sp_seq.proofs.Sweeping.{Sweeping}
use Rattle.sp_seq.proofs.engine.match_windows.Goals as goal

pub loop-count-init : goal.loop-count-init
loop-count-init c = record { swept = c.requires.swept; known = c.requires.known; plan_is = c.requires.matcher }

pub add_window-requires-clause-swept : goal.add_window-requires-clause-swept
add_window-requires-clause-swept c =
    let now = c.loop-count in
    let count : now.count ≡ c.closed_window-window.result.number - 1 = omega (arith, c.closed_window-window.ensures.number) in
    subst (λ (n : ℕ). IsSwept c.args.plan.now c.args.events.now n now.sweep.matches.items now.sweep.consumed.items) count now.invariant.swept

pub loop-count-preserved : goal.loop-count-preserved
loop-count-preserved c =
    let sweep = c.add_window.new.self in
    let added = c.in_ok-add_window.ensures in
    subst (λ (n : ℕ). Sweeping c.args.plan.now c.args.events.now n sweep) c.closed_window-window.ensures.number (record { swept = added.swept; known = added.known; plan_is = added.plan })

pub returns : goal.returns
returns c =
    let plan = c.args.plan.now in
    let all : c.loop-count.count ≡ c.closed-count-end.result = omega arith in
    let closed_is = c.closed-count-end.ensures c.args.events.now c.args.windows.now.ended c.requires.stands in
    c.loop-count.invariant.swept.matches_are ∙ ap (λ (n : ℕ). (seq plan c.args.events.now n).matches) (all ∙ closed_is ∙ ap (λ (p : Plan). closed p c.args.events.now c.args.windows.now.ended) c.requires.plan)
