use Rattle.std.proofs.Common.{◌≡◌, ℕ, ◌<◌, List, [], true, false, map, length, get_or, sym, ap, subst, ◌∙◌, arith}
use Rattle.std.proofs.lemmas.Grind.{common_steps}
use Rattle.std.proofs.lemmas.List.{get_or-map, length-map}
use Rattle.sp_plan.specs.Runs.{Started}
use Rattle.sp_match.specs.declared.run.Run.{Run}
use Rattle.sp_match.specs.inside.Kept.{empty, kept, started}
use Rattle.sp_match.specs.inside.Good.{Good}
use Rattle.sp_match.proofs.RunsUndo.{good_here}
use Rattle.sp_match.proofs.all_runs.same_runs.Goals as goal

-- the run at a place, as the definitions have it
run_there : (rs : List Run) (i : ℕ) (r : Run) → i < length rs → r ≡ get_or rs i r → get_or (map started (map kept rs)) i (0, []) ≡ started (kept r)
run_there rs i r within is =
    get_or-map started (map kept rs) i (empty 0) (0, []) (omega (arith, within, length-map rs kept)) ∙ ap started (get_or-map kept rs i r (empty 0) within) ∙ ap (λ (s : Run). started (kept s)) (sym is)

pub same_run-requires-clause-one : goal.same_run-requires-clause-one
same_run-requires-clause-one c =
    let q = c.requires.one.0 in
    (q, subst (λ (r : Run). Good q (kept r)) (sym c.index-ones-at.is) (good_here q c.args.ones.now c.loop-at.at c.index-ones-at.result c.loop-at-test.true c.requires.one.1))

pub same_run-requires-clause-other : goal.same_run-requires-clause-other
same_run-requires-clause-other c =
    let q = c.requires.other.0 in
    let within : c.loop-at.at < length c.args.others.now = omega (arith, c.loop-at-test.true, c.if-ones-others.false) in
    (q, subst (λ (r : Run). Good q (kept r)) (sym c.index-others-at.is) (good_here q c.args.others.now c.loop-at.at c.index-others-at.result within c.requires.other.1))

pub returns-then-not-same_run : goal.returns-then-not-same_run
returns-then-not-same_run c =
    let within : c.loop-at.at < length c.args.others.now = omega (arith, c.loop-at-test.true, c.if-ones-others.false) in (
      λ f. cc,
      λ e.
          let at : started (kept c.index-ones-at.result) ≡ started (kept c.index-others-at.result) =
          sym (run_there c.args.ones.now c.loop-at.at c.index-ones-at.result c.loop-at-test.true c.index-ones-at.is) ∙ ap (λ (l : List Started). get_or l c.loop-at.at (0, [])) e
          ∙ run_there c.args.others.now c.loop-at.at c.index-others-at.result within c.index-others-at.is in
          let is : c.same_run.result ≡ true = c.same_run.ensures.1 at in
          let not : c.same_run.result ≡ false = c.if-not-same_run.true in
          cc,
    )

pub returns-then-ones-others : goal.returns-then-ones-others
returns-then-ones-others c = grind (arith, common_steps)

pub loop-at-preserved : goal.loop-at-preserved
loop-at-preserved c = grind (arith, common_steps)

pub returns : goal.returns
returns c = grind (arith, common_steps)
