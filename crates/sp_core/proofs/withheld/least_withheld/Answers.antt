use Rattle.std.proofs.Common.{◌≡◌, ℕ, Bool, ◌+◌, ◌||◌, map, sym, ap, subst, ◌∙◌}
use Rattle.sp_base.specs.Numbers.{is_among}
use Rattle.sp_match.specs.public.Matching.{Matching, shown}
use Rattle.sp_match.specs.public.Seen.{seen_run}
use Rattle.sp_core.specs.Withheld.{is_kept_back, lesser}
use Rattle.sp_core.proofs.KeptBack.{is_kept_by, kept_by_none, kept_by_named, kept_by_unnamed, kept_by_all}
use Rattle.sp_core.proofs.Least.{least_unskipped, unskipped_alike, unskipped_either}
use Rattle.sp_core.proofs.withheld.least_withheld.Goals as goal
use Rattle.sp_core.proofs.withheld.least_withheld.Goals.{then-has, else-has}

pub loop-run-init : goal.loop-run-init
loop-run-init c =
    let used = c.args.parent.now.used.list in
    let label = c.args.label.now in
    let runs = c.open_runs-run-items.result.now in
    c.least_unskipped-found.ensures
    ∙ unskipped_alike (is_among used) (is_kept_by used label runs 0) c.args.first c.args.count c.args.skipped.now.list (kept_by_none used label runs)

pub loop-run-preserved : goal.loop-run-preserved
loop-run-preserved c =
    let used = c.args.parent.now.used.list in
    let label = c.args.label.now in
    let runs = c.open_runs-run-items.result.now in
    let run = c.run-item.result in
    let n = c.loop-run.run-index in
    let skipped = c.args.skipped.now.list in
    let least = λ (p : ℕ → Bool). least_unskipped p c.args.first c.args.count skipped in
    elim c.if-has.branch [
      | then-has w ↦
          w.found-is ∙ w.lesser-found.ensures ∙ ap (λ o. lesser o w.least_unskipped.result) c.loop-run.invariant
          ∙ ap (lesser (least (is_kept_by used label runs n))) w.least_unskipped.ensures
          ∙ unskipped_either (is_kept_by used label runs n) (is_among run.used.list) c.args.first c.args.count skipped
          ∙ unskipped_alike (λ i. is_kept_by used label runs n i || is_among run.used.list i) (is_kept_by used label runs (n + 1)) c.args.first c.args.count skipped
          (λ i. kept_by_named used label runs n i run c.loop-run-test.true c.run-item.is (sym c.has.ensures ∙ w.if-has.true))
      | else-has w ↦
          w.found-is ∙ c.loop-run.invariant
          ∙ unskipped_alike (is_kept_by used label runs n) (is_kept_by used label runs (n + 1)) c.args.first c.args.count skipped
          (λ i. kept_by_unnamed used label runs n i run c.loop-run-test.true c.run-item.is (sym c.has.ensures ∙ w.if-has.false))
    ]

pub returns : goal.returns
returns c =
    let parent = c.args.parent.now in
    let label = c.args.label.now in
    let runs = c.open_runs-run-items.result.now in
    let n = c.loop-run.run-index in
    c.loop-run.invariant
    ∙ unskipped_alike (is_kept_by parent.used.list label runs n) (is_kept_back parent label) c.args.first c.args.count c.args.skipped.now.list
    (λ i. kept_by_all parent.used.list label parent.matcher.plan runs parent.matcher.open_runs n i
    (subst (λ (m : Matching). map seen_run runs ≡ map (shown m.plan) m.open_runs) c.get.ensures c.open_runs-run-items.ensures) c.loop-run-test.false)
