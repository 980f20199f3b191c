use Rattle.std.proofs.Common.{◌≡◌, true, false, Option, Some, None, ℕ, get_or, refl, sym, ap, ◌∙◌, arith}
use Rattle.std.specs.Prelude.{is_none, is_some}
use Rattle.std.specs.List.{list_all}
use Rattle.std.proofs.lemmas.List.{take_all}
use Rattle.std.proofs.lemmas.List.Folds.{list_all-map, list_all_at}
use Rattle.sp_plan.specs.Runs.{takes}
use Rattle.sp_scan.specs.declared.run.Run as own
use Rattle.sp_scan.proofs.handling.none_takes.Goals as goal

some_is_not_none : (o : Option ℕ) → is_some o ≡ true → is_none o ≡ false
some_is_not_none None some = absurd (cc some)
some_is_not_none (Some n) some = refl

pub returns-then-is_some : goal.returns-then-is_some
returns-then-is_some c =
    let q = c.args.offer.now.plan.now in
    let e = c.args.offer.now.event.now in
    let runs = c.args.runs.now in
    let run = c.run-item.result in
    let i = c.loop-run.run-index in
    let fails : is_none (takes q run.pairs e) ≡ false = ap is_none (sym c.takes.ensures) ∙ some_is_not_none c.takes.result (sym c.is_some.ensures ∙ c.if-is_some.true) in
    let there : is_none (takes q (get_or runs i run).pairs e) ≡ false = ap (λ (r : own.Run). is_none (takes q r.pairs e)) (sym c.run-item.is) ∙ fails in
    sym (list_all-map (λ r. is_none (takes q r e)) (λ (run : own.Run). run.pairs) runs ∙ list_all_at (λ run. is_none (takes q run.pairs e)) runs i run c.loop-run-test.true there)

pub returns : goal.returns
returns c =
    let q = c.args.offer.now.plan.now in
    let e = c.args.offer.now.event.now in
    let runs = c.args.runs.now in
    sym (list_all-map (λ r. is_none (takes q r e)) (λ (run : own.Run). run.pairs) runs
    ∙ ap (list_all (λ (run : own.Run). is_none (takes q run.pairs e))) (sym (take_all c.loop-run.run-index runs (omega arith))) ∙ c.loop-run.invariant)
