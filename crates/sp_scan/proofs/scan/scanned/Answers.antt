use Rattle.std.proofs.Common.{◌≤◌, ◌+◌, ◌-◌, sym, ap, subst, ◌∙◌, arith}
use Rattle.sp_plan.specs.declared.event.Event.{Event}
use Rattle.sp_plan.specs.Runs.{State, handle}
use Rattle.sp_scan.specs.declared.runs.Runs.{Runs}
use Rattle.sp_scan.specs.inside.Shown.{ShowsRuns}
use Rattle.sp_scan.proofs.ReadsOn.{read_handled, read_skipped, read_to, scanned_to, scanning_from, shows_later}
use Rattle.sp_scan.proofs.scan.scanned.Goals as goal
use Rattle.sp_scan.proofs.scan.scanned.Goals.{then-not-has+in_ok-runs, else-not-has}

pub loop-place-init : goal.loop-place-init
loop-place-init c = scanning_from c.args.plan.now c.args.events.now c.args.skipped.now.list c.args.first c.args.last _ c.new.ensures.items c.new-2.ensures.items

pub loop-place-preserved : goal.loop-place-preserved
loop-place-preserved c =
    let q = c.args.plan.now in
    let events = c.args.events.now in
    let skipped = c.args.skipped.now.list in
    let first = c.args.first in
    let place = c.loop-place.place in
    let now = c.loop-place.invariant in
    let s = read_to q events skipped first place in
    let bounded : place + 1 - (first - 1) ≤ c.args.last + 1 - first = omega (arith, now.bounded, c.requires.low) in
    elim c.if-not-has.branch [
      | then-not-has+in_ok-runs w ↦
          let event = w.index-events-place.result in
          let at = read_handled q events skipped first place c.requires.low (omega arith) event (omega (arith, c.requires.within)) (sym c.has.ensures ∙ w.if-not-has.true) in
          record {
            shown = subst (λ (r : Runs). ShowsRuns q (place + 1 + 1) (read_to q events skipped first (place + 1)) r) (sym w.runs-is)
                (subst (λ (t : State). ShowsRuns q (place + 1 + 1) t w.in_ok-runs.runs) (sym (at ∙ ap (λ (e : Event). handle q s (place + 1, e)) (sym w.index-events-place.is))) (w.in_ok-runs.ensures s now.shown));
            bounded = bounded;
          }
      | else-not-has w ↦
          let at = read_skipped q events skipped first place c.requires.low (omega arith) (sym c.has.ensures ∙ w.if-not-has.false) in
          record {
            shown = subst (λ (r : Runs). ShowsRuns q (place + 1 + 1) (read_to q events skipped first (place + 1)) r) (sym w.runs-is) (subst (λ (t : State). ShowsRuns q (place + 1 + 1) t c.loop-place.runs) (sym at) (shows_later q (place + 1) s c.loop-place.runs now.shown));
            bounded = bounded;
          }
    ]

pub handle-requires-clause-ready : goal.handle-requires-clause-ready
handle-requires-clause-ready c = c.loop-place.invariant.shown.ready

pub returns : goal.returns
returns c = scanned_to c.args.plan.now c.args.events.now c.args.skipped.now.list c.args.first c.args.last c.loop-place.place c.loop-place.runs c.requires.low c.loop-place.invariant (omega (arith, c.loop-place-test.false))
