use Rattle.std.proofs.Common.{◌≡◌, true, List, ◌++◌, sym, ◌∙◌, subst}
use Rattle.std.proofs.lemmas.Result.{err_from_is_err_and}
use Rattle.sp_plan.specs.declared.event.Event.{Event}
use Rattle.sp_plan.specs.declared.plan.Plan.{Plan}
use Rattle.sp_plan.specs.Compiled.{IsCompiled}
use Rattle.sp_rules.specs.Schedules.{Reached}
use Rattle.sp_ports.specs.Giving.{AreGood}
use Rattle.sp_core.specs.Running.{Running}
use Rattle.sp_split.specs.Stages.{AllFinished}
use Rattle.sp_split.proofs.Going.{fed_later, fell_short, was_fed}
use Rattle.sp_split.specs.Stopping.{IsThrough}
use Rattle.sp_split.proofs.Over.{drove_over, ended_any, fed_turn, going_on, put_through}
use Rattle.sp_split.proofs.Prompt.{behind_on, behind_round, grew_still, if_some, prompt_on, took_all}
use Rattle.sp_split.proofs.Turns.{on_any}
use Rattle.sp_split.proofs.running.round.Goals as goal

pub returns-in_err-fed-clause-short : goal.returns-in_err-fed-clause-short
returns-in_err-fed-clause-short g c =
    let p = err_from_is_err_and c.from_residual.result c.from_residual.ensures.1 in
    let mid = g.D.Driver.core c.feed.new.driver in
    let s = g.O.Outlet.state c.args.outlet.now in
    let lost = c.in_err-fed.ensures.lost in
    let events = mid.machine.events ++ lost.0 in
    rw p.1 (λ from first old same going.
    let given = lost.1 from going.going.run.given in
    let good = subst (λ (q : Plan). AreGood q events) same (g.I.Intake.good from events c.feed.new.intake given) in
    fell_short _ (λ (xs : List Event). g.I.Intake.gave from xs c.feed.new.intake) (g.I.Intake.ended c.feed.new.intake) first (g.D.Driver.core c.args.driver.now) mid old s lost.0
    going.going c.in_err-fed.ensures.unended (subst (λ (r : Running). Reached r.plan r.bound r.machine) c.core.ensures c.steps_lead_to.ensures.reached) (subst (λ (r : Running). IsCompiled r.plan) c.core.ensures c.steps_lead_to.ensures.compiled) c.finished_windows_stay.ensures c.feed.ensures.on given good)

pub returns-in_err-fed-clause-prompt : goal.returns-in_err-fed-clause-prompt
returns-in_err-fed-clause-prompt g c = λ from first old going.
    let before = g.D.Driver.core c.args.driver.now in
    let s = g.O.Outlet.state c.args.outlet.now in
    let lost = c.in_err-fed.ensures.lost in
    let later = (g.D.Driver.core c.feed.new.driver).machine.events ++ lost.0 in
    prompt_on (g.I.Intake.asked from) c.feed.new.intake first.plan later old s
    (behind_on g.I.Intake.asked from c.args.intake.now c.feed.new.intake first.plan before.machine.events later (AllFinished before × (before.machine.ended ≡ _)) old s s
    going.behind lost.2 (took_all first before old s (subst (λ (r : Running). Reached r.plan r.bound r.machine) c.core.ensures c.steps_lead_to.ensures.reached) going.going.run.plan going.going.took) (grew_still s))

pub returns-in_err-fed-clause-came : goal.returns-in_err-fed-clause-came
returns-in_err-fed-clause-came g c = g.D.Driver.ready_came c.feed.new.driver c.feed.ensures.ready

pub returns-clause-goes : goal.returns-clause-goes
returns-clause-goes g c = λ goes_on from first old going.
    let before = g.D.Driver.core c.args.driver.now in
    let mid = g.D.Driver.core c.feed.new.driver in
    let last = g.D.Driver.core c.work_and_put-put.new.driver in
    let fed = c.in_ok-fed.fed in
    let put = c.work_and_put-put.result in
    let s = g.O.Outlet.state c.args.outlet.now in
    let new = g.O.Outlet.state c.work_and_put-put.new.outlet in
    let own = c.work_and_put-put.ensures in
    let G = λ (xs : List Event). g.I.Intake.gave from xs c.feed.new.intake in
    let whole = g.I.Intake.ended c.feed.new.intake in
    let same = ended_any put mid last _ _ _ own.done own.failed own.short in
    let is = fed_later g.I.Intake.ended g.I.Intake.stops g.I.Intake.cause from c.feed.new.intake fed mid.machine.ended last.machine.ended same (c.in_ok-fed.ensures.is from going.fed_so) in
    let turned = fed_turn _ G first before mid last old s new going.going c.feed.ensures.on (c.in_ok-fed.ensures.given from going.going.run.given) _ (c.requires.plan ∙ going.going.run.plan)
    put own.done own.failed own.short own.rose own.no_fault in
    record {
      going = going_on G whole (g.I.Intake.stops from) (g.I.Intake.stops c.feed.new.intake) (g.I.Intake.cause c.feed.new.intake) first last old new fed put c.all_finished-all.result (sym goes_on ∙ c.why_over-over.ensures) turned;
      fed_so = is;
      behind = behind_round g.I.Intake.asked from c.args.intake.now c.feed.new.intake first before mid last old s new _ put going.behind c.in_ok-fed.ensures.asked
          (took_all first before old s (subst (λ (r : Running). Reached r.plan r.bound r.machine) c.core.ensures c.steps_lead_to.ensures.reached) going.going.run.plan going.going.took) own.done own.failed own.short;
    }

pub returns-clause-ended : goal.returns-clause-ended
returns-clause-ended g c = if_some _ c.why_over-over.result (λ why so from first old going.
    let before = g.D.Driver.core c.args.driver.now in
    let mid = g.D.Driver.core c.feed.new.driver in
    let last = g.D.Driver.core c.work_and_put-put.new.driver in
    let fed = c.in_ok-fed.fed in
    let put = c.work_and_put-put.result in
    let s = g.O.Outlet.state c.args.outlet.now in
    let new = g.O.Outlet.state c.work_and_put-put.new.outlet in
    let own = c.work_and_put-put.ensures in
    let G = λ (xs : List Event). g.I.Intake.gave from xs c.feed.new.intake in
    let whole = g.I.Intake.ended c.feed.new.intake in
    let same = ended_any put mid last _ _ _ own.done own.failed own.short in
    let is = fed_later g.I.Intake.ended g.I.Intake.stops g.I.Intake.cause from c.feed.new.intake fed mid.machine.ended last.machine.ended same (c.in_ok-fed.ensures.is from going.fed_so) in
    let turned = fed_turn _ G first before mid last old s new going.going c.feed.ensures.on (c.in_ok-fed.ensures.given from going.going.run.given) _ (c.requires.plan ∙ going.going.run.plan)
    put own.done own.failed own.short own.rose own.no_fault in
    drove_over G whole (g.I.Intake.stops from) (g.I.Intake.stops c.feed.new.intake) (g.I.Intake.cause c.feed.new.intake) first last old new fed put c.all_finished-all.result why (so ∙ c.why_over-over.ensures) (was_fed g.I.Intake.ended g.I.Intake.stops g.I.Intake.cause from c.feed.new.intake fed last.machine.ended is)
    (on_any _ put (subst (λ (r : Running). c.all_finished-all.result ≡ true → AllFinished r) c.core-2.ensures c.all_finished-all.ensures.0)) turned)

pub returns-clause-ready : goal.returns-clause-ready
returns-clause-ready g c = λ is.
    put_through _ c.in_ok-fed.fed c.work_and_put-put.result c.all_finished-all.result (subst IsThrough c.why_over-over.ensures is) c.work_and_put-put.ensures.ready

pub returns-clause-relieved : goal.returns-clause-relieved
returns-clause-relieved g c =
    subst (λ team. g.D.Driver.relieved team (g.D.Driver.team c.work_and_put-put.new.driver)) c.feed.ensures.terms.2 c.work_and_put-put.ensures.relieved

pub returns-clause-prompt : goal.returns-clause-prompt
returns-clause-prompt g c = λ from first old going.
    let before = g.D.Driver.core c.args.driver.now in
    let mid = g.D.Driver.core c.feed.new.driver in
    let last = g.D.Driver.core c.work_and_put-put.new.driver in
    let put = c.work_and_put-put.result in
    let s = g.O.Outlet.state c.args.outlet.now in
    let new = g.O.Outlet.state c.work_and_put-put.new.outlet in
    let own = c.work_and_put-put.ensures in
    prompt_on (g.I.Intake.asked from) c.feed.new.intake first.plan last.machine.events old new
    (behind_round g.I.Intake.asked from c.args.intake.now c.feed.new.intake first before mid last old s new _ put going.behind c.in_ok-fed.ensures.asked
    (took_all first before old s (subst (λ (r : Running). Reached r.plan r.bound r.machine) c.core.ensures c.steps_lead_to.ensures.reached) going.going.run.plan going.going.took) own.done own.failed own.short)
