use Rattle.std.proofs.Common.{◌≡◌, ℕ, ◌+◌, ◌||◌, ◌&&◌, Bool, List, map, sym, ap, subst, ◌∙◌}
use Rattle.sp_base.specs.Numbers.{NumberList, is_within, is_among}
use Rattle.sp_match.specs.public.Matching.{Matching, shown}
use Rattle.sp_match.specs.public.Seen.{seen_run}
use Rattle.sp_core.proofs.KeptBack.{is_kept_by, kept_by_named, kept_by_unnamed, kept_by_all, takes_in, takes_first}
use Rattle.sp_core.proofs.withheld.withheld_within.Goals as goal
use Rattle.sp_core.proofs.withheld.withheld_within.Goals.{then-has+in_ok-cut_to-2+in_ok-union-2, else-has}

pub loop-run-init : goal.loop-run-init
loop-run-init c =
    let old = c.args.numbers.now.list in
    takes_first old c.union-2.new.self.list c.args.parent.now.used.list c.args.label.now c.open_runs-run-items.result.now c.args.first c.args.count
    (λ i. c.in_ok-union.ensures.members i ∙ ap (λ (ns : List ℕ). is_among old i || is_among ns i) c.in_ok-cut_to.ensures)

pub loop-run-preserved : goal.loop-run-preserved
loop-run-preserved c =
    let used = c.args.parent.now.used.list in
    let label = c.args.label.now in
    let runs = c.open_runs-run-items.result.now in
    let run = c.run-item.result in
    let n = c.loop-run.run-index in
    let old = c.loop-run.numbers.list in
    elim c.if-has.branch [
      | then-has+in_ok-cut_to-2+in_ok-union-2 w ↦ λ i.
          ap (λ (s : NumberList). is_among s.list i) w.numbers-is
          ∙ takes_in old w.union-then-has-2.new.self.list run.used.list c.args.first c.args.count (is_kept_by used label runs n) (is_kept_by used label runs (n + 1))
          (is_among c.args.numbers.now.list) c.loop-run.invariant
          (λ j. w.in_ok-union-2.ensures.members j ∙ ap (λ (ns : List ℕ). is_among old j || is_among ns j) w.in_ok-cut_to-2.ensures)
          (λ j. kept_by_named used label runs n j run c.loop-run-test.true c.run-item.is (sym c.has.ensures ∙ w.if-has.true)) i
      | else-has w ↦ λ i.
          ap (λ (s : NumberList). is_among s.list i) w.numbers-is ∙ c.loop-run.invariant i
          ∙ ap (λ (b : Bool). is_among c.args.numbers.now.list i || (is_within c.args.first c.args.count i && b))
          (kept_by_unnamed used label runs n i run c.loop-run-test.true c.run-item.is (sym c.has.ensures ∙ w.if-has.false))
    ]

pub returns : goal.returns
returns c i =
    let parent = c.args.parent.now in
    let runs = c.open_runs-run-items.result.now in
    c.loop-run.invariant i
    ∙ ap (λ (b : Bool). is_among c.args.numbers.now.list i || (is_within c.args.first c.args.count i && b))
    (kept_by_all parent.used.list c.args.label.now parent.matcher.plan runs parent.matcher.open_runs c.loop-run.run-index i
    (subst (λ (m : Matching). map seen_run runs ≡ map (shown m.plan) m.open_runs) c.get.ensures c.open_runs-run-items.ensures) c.loop-run-test.false)
