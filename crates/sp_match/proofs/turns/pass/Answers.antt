use Rattle.std.proofs.Common.{◌≡◌, true, false, ◌∷◌, ◌++◌, [], map, set, sym, ap, subst, ◌∙◌}
use Rattle.std.specs.Prelude.{if◌then◌else◌}
use Rattle.std.proofs.lemmas.List.{append-nil, map-set}
use Rattle.sp_plan.specs.Windows.{Numbered}
use Rattle.sp_plan.specs.Runs.{departs}
use Rattle.sp_match.specs.declared.run.Fate.TheVariants.{Leaves}
use Rattle.sp_match.specs.inside.Kept.{Kept, kept, pairs}
use Rattle.sp_match.specs.inside.Good.{RunUndoes}
use Rattle.sp_match.specs.inside.Offer.{IsToldAt}
use Rattle.sp_match.specs.inside.Effects.{leaving_told, runs_after_leaving, run_at}
use Rattle.sp_match.specs.inside.Turn.{departs_at}
use Rattle.sp_match.specs.public.Seen.{seen}
use Rattle.sp_match.proofs.RunsUndo.{all_stay, good_here, here, run_fate, run_stays, undone_set}
use Rattle.sp_match.proofs.turns.pass.Goals as goal

pub departs-requires-clause-good : goal.departs-requires-clause-good
departs-requires-clause-good c = good_here c.args.offer.now.plan.now c.args.runs.now c.args.at c.index-runs-at.result c.requires.within c.requires.good

pub departs-requires-clause-told : goal.departs-requires-clause-told
departs-requires-clause-told c = subst (λ k. IsToldAt c.args.offer.now c.args.at (pairs k)) (here c.args.runs.now c.args.at c.index-runs-at.result c.requires.within) c.requires.told

pub returns-in_err-leave-clause-undoes : goal.returns-in_err-leave-clause-undoes
returns-in_err-leave-clause-undoes c =
    let q = c.args.offer.now.plan.now in
    let d = c.index-runs-at-then-departs.result in
    let same = run_stays q c.args.offer.now.number _ (good_here q c.args.runs.now c.args.at d c.requires.within c.requires.good) in
    undone_set q c.args.offer.now.number c.args.runs.now c.args.at d c.leave.new.run c.requires.within c.requires.good (subst (RunUndoes q c.args.offer.now.number _) (sym c.in_err-leave.ensures.err) same)

pub returns-then-departs-clause-undoes : goal.returns-then-departs-clause-undoes
returns-then-departs-clause-undoes c =
    let q = c.args.offer.now.plan.now in
    let d = c.index-runs-at-then-departs.result in
    let same = run_stays q c.args.offer.now.number _ (good_here q c.args.runs.now c.args.at d c.requires.within c.requires.good) in
    undone_set q c.args.offer.now.number c.args.runs.now c.args.at d c.leave.new.run c.requires.within c.requires.good
    (subst (RunUndoes q c.args.offer.now.number _) (sym c.in_ok-leave.ensures.run) (run_fate q c.args.offer.now.number _ _ Leaves same))

pub returns-then-departs-clause-runs : goal.returns-then-departs-clause-runs
returns-then-departs-clause-runs c =
    let q = c.args.offer.now.plan.now in
    let x : Numbered = (c.args.offer.now.number, c.args.offer.now.event.now) in
    let rs = c.args.runs.now in
    let ks = map kept rs in
    let at = c.args.at in
    let yes : true ≡ departs_at q at x ks = sym c.if-departs.true ∙ c.departs.ensures ∙ ap (λ (k : Kept). departs q (pairs k) x.1) (sym (here rs at c.index-runs-at.result c.requires.within)) in
    map-set kept rs at c.leave.new.run ∙ ap (set ks at) c.in_ok-leave.ensures.run
    ∙ ap (λ (k : Kept). set ks at (record k { fate = Leaves })) (sym (here rs at c.index-runs-at-then-departs.result c.requires.within))
    ∙ (λ i. if yes i then runs_after_leaving at ks else ks)

pub returns-then-departs-clause-told : goal.returns-then-departs-clause-told
returns-then-departs-clause-told c =
    let q = c.args.offer.now.plan.now in
    let x : Numbered = (c.args.offer.now.number, c.args.offer.now.event.now) in
    let rs = c.args.runs.now in
    let ks = map kept rs in
    let at = c.args.at in
    let before = map seen c.args.list.now.items in
    let yes : true ≡ departs_at q at x ks = sym c.if-departs.true ∙ c.departs.ensures ∙ ap (λ (k : Kept). departs q (pairs k) x.1) (sym (here rs at c.index-runs-at.result c.requires.within)) in
    c.in_ok-leave.ensures.told ∙ ap (λ (k : Kept). before ++ leaving_told k ∷ []) (sym (here rs at c.index-runs-at-then-departs.result c.requires.within))
    ∙ (λ i. before ++ (if yes i then leaving_told (run_at ks at) ∷ [] else []))

pub returns-clause-runs : goal.returns-clause-runs
returns-clause-runs c =
    let q = c.args.offer.now.plan.now in
    let x : Numbered = (c.args.offer.now.number, c.args.offer.now.event.now) in
    let rs = c.args.runs.now in
    let ks = map kept rs in
    let at = c.args.at in
    let no : false ≡ departs_at q at x ks = sym c.if-departs.false ∙ c.departs.ensures ∙ ap (λ (k : Kept). departs q (pairs k) x.1) (sym (here rs at c.index-runs-at.result c.requires.within)) in
    λ i. if no i then runs_after_leaving at ks else ks

pub returns-clause-told : goal.returns-clause-told
returns-clause-told c =
    let q = c.args.offer.now.plan.now in
    let x : Numbered = (c.args.offer.now.number, c.args.offer.now.event.now) in
    let rs = c.args.runs.now in
    let ks = map kept rs in
    let at = c.args.at in
    let before = map seen c.args.list.now.items in
    let no : false ≡ departs_at q at x ks = sym c.if-departs.false ∙ c.departs.ensures ∙ ap (λ (k : Kept). departs q (pairs k) x.1) (sym (here rs at c.index-runs-at.result c.requires.within)) in
    sym (append-nil before) ∙ (λ i. before ++ (if no i then leaving_told (run_at ks at) ∷ [] else []))

pub returns-clause-undoes : goal.returns-clause-undoes
returns-clause-undoes c = all_stay c.args.offer.now.plan.now c.args.offer.now.number (map kept c.args.runs.now) c.requires.good
