use Rattle.std.proofs.Common.{◌≡◌, ℕ, ◌++◌, Option, None, map, get_or, sym, ap, subst, ◌∙◌, arith}
use Rattle.std.proofs.lemmas.Grind.{common_steps}
use Rattle.sp_plan.specs.Windows.{Numbered}
use Rattle.sp_plan.specs.Runs.{takes}
use Rattle.sp_match.specs.inside.Kept.{kept, pairs}
use Rattle.sp_match.specs.inside.Offer.{IsToldAt}
use Rattle.sp_match.specs.inside.Effects.{offer_told, runs_after_offer, run_at}
use Rattle.sp_match.specs.inside.Turn.{departs_at}
use Rattle.sp_match.specs.public.Seen.{seen}
use Rattle.sp_match.proofs.TakenIsNamed.{takes_binding, takes_named}
use Rattle.sp_match.proofs.RunsUndo.{here, good_here}
use Rattle.sp_match.proofs.turns.deal.Goals as goal

pub bind-requires-clause-named : goal.bind-requires-clause-named
bind-requires-clause-named c = takes_named c.args.offer.now.plan.now (pairs (kept (get_or c.args.runs.now c.args.at c.index-runs-at.result))) c.args.offer.now.event.now c.in-Some.name (sym c.takes.ensures ∙ c.in-Some.is)

pub bind-requires-clause-binds : goal.bind-requires-clause-binds
bind-requires-clause-binds c = takes_binding c.args.offer.now.plan.now (pairs (kept (get_or c.args.runs.now c.args.at c.index-runs-at.result))) c.args.offer.now.event.now c.in-Some.name (sym c.takes.ensures ∙ c.in-Some.is)

pub returns-in_ok-pass-in-None-clause-runs : goal.returns-in_ok-pass-in-None-clause-runs
returns-in_ok-pass-in-None-clause-runs c =
    let q = c.args.offer.now.plan.now in
    let x : Numbered = (c.args.offer.now.number, c.args.offer.now.event.now) in
    let rs = c.args.runs.now in
    let ks = map kept rs in
    let at = c.args.at in
    let none : None ≡ takes q (pairs (run_at ks at)) c.args.offer.now.event.now = sym c.in-None.is ∙ c.takes.ensures ∙ ap (λ k. takes q (pairs k) c.args.offer.now.event.now) (sym (here rs at c.index-runs-at.result c.requires.within)) in
    c.in_ok-pass-in-None.ensures.runs ∙ ap (runs_after_offer q (departs_at q at x ks) at x ks) none

pub returns-in_ok-pass-in-None-clause-told : goal.returns-in_ok-pass-in-None-clause-told
returns-in_ok-pass-in-None-clause-told c =
    let q = c.args.offer.now.plan.now in
    let x : Numbered = (c.args.offer.now.number, c.args.offer.now.event.now) in
    let rs = c.args.runs.now in
    let ks = map kept rs in
    let at = c.args.at in
    let none : None ≡ takes q (pairs (run_at ks at)) c.args.offer.now.event.now = sym c.in-None.is ∙ c.takes.ensures ∙ ap (λ k. takes q (pairs k) c.args.offer.now.event.now) (sym (here rs at c.index-runs-at.result c.requires.within)) in
    c.in_ok-pass-in-None.ensures.told ∙ ap (λ (o : Option ℕ). map seen c.args.list.now.items ++ offer_told q (departs_at q at x ks) at x ks o) none

pub returns-in_ok-pass-in-None-clause-received : goal.returns-in_ok-pass-in-None-clause-received
returns-in_ok-pass-in-None-clause-received c = grind (arith, common_steps)

pub takes-requires-clause-told : goal.takes-requires-clause-told
takes-requires-clause-told c = subst (λ k. IsToldAt c.args.offer.now c.args.at (pairs k)) (here c.args.runs.now c.args.at c.index-runs-at.result c.requires.within) c.requires.told

pub takes-requires-clause-good : goal.takes-requires-clause-good
takes-requires-clause-good c = good_here c.args.offer.now.plan.now c.args.runs.now c.args.at c.index-runs-at.result c.requires.within c.requires.good

pub returns-then-used-clause-received : goal.returns-then-used-clause-received
returns-then-used-clause-received c = grind (arith, common_steps)

pub returns-then-used-clause-runs : goal.returns-then-used-clause-runs
returns-then-used-clause-runs c = grind (arith, common_steps)

pub returns-then-used-clause-told : goal.returns-then-used-clause-told
returns-then-used-clause-told c = grind (arith, common_steps)

pub returns-else-used-clause-received : goal.returns-else-used-clause-received
returns-else-used-clause-received c = grind (arith, common_steps)

pub returns-else-used-clause-runs : goal.returns-else-used-clause-runs
returns-else-used-clause-runs c = grind (arith, common_steps)

pub returns-else-used-clause-told : goal.returns-else-used-clause-told
returns-else-used-clause-told c = grind (arith, common_steps)
