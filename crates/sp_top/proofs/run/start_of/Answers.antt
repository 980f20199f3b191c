use Rattle.std.proofs.Common.{◌≡◌, false, subst}
use Rattle.sp_io.specs.Outside.{SourceState}
use Rattle.sp_plan.specs.declared.plan.Plan.{Plan}
use Rattle.sp_intake.specs.Asked.{standing}
use Rattle.sp_intake.specs.Loose.{Lateness}
use Rattle.sp_commands.specs.Commands.{lateness}
use Rattle.sp_top.specs.Coming.{ComesFrom, AsksInTime}
use Rattle.sp_top.proofs.run.start_of.Goals as goal

pub returns-clause-fresh : goal.returns-clause-fresh
returns-clause-fresh c =
    let l : Lateness = lateness c.args.late.slack c.args.late.rule in
    subst (λ (q : Plan). (source : SourceState) → source.ended ≡ false → ComesFrom q l source (standing source c.in_ok-events.events)) c.in_ok-plan.ensures c.in_ok-events.ensures.fresh

pub returns-clause-unasked : goal.returns-clause-unasked
returns-clause-unasked c =
    let l : Lateness = lateness c.args.late.slack c.args.late.rule in
    subst (λ (q : Plan). (source : SourceState) → source.ended ≡ false → AsksInTime q l source (standing source c.in_ok-events.events)) c.in_ok-plan.ensures c.in_ok-events.ensures.unasked
