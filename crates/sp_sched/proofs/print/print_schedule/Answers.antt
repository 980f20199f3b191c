use Rattle.std.proofs.Common.{◌≡◌, ℕ, List, sym, ◌∙◌, ap, subst, arith}
use Rattle.std.specs.Prelude.{string_bytes}
use Rattle.std.proofs.lemmas.List.{take_all}
use Rattle.sp_sched.specs.Schedules.{IsSchedule, schedule_text}
use Rattle.sp_sched.proofs.Lines.{printed_is_schedule}
use Rattle.sp_sched.proofs.print.print_schedule.Goals as goal

pub returns-clause-back : goal.returns-clause-back
returns-clause-back c =
    let whole : string_bytes c.loop-step.out ≡ schedule_text c.args.steps.now =
    c.loop-step.invariant ∙ ap schedule_text (take_all c.loop-step.step-index c.args.steps.now (omega arith)) in
    subst (λ (text : List ℕ). IsSchedule text c.args.steps.now) (sym whole) (printed_is_schedule c.args.steps.now c.requires)
