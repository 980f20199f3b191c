use Rattle.std.proofs.Common.{List}
use Rattle.sp_plan.specs.declared.event.Event.{Event}
use Rattle.sp_split.proofs.About.{fell_at_once}
use Rattle.sp_split.proofs.Prompt.{prompt_none}
use Rattle.sp_split.proofs.fitting.with_register.Goals as goal

pub returns-in-Err-clause-ends : goal.returns-in-Err-clause-ends
returns-in-Err-clause-ends g c =
    let intake = c.args.ways.intake in
    record {
      drove = tt;
      about = tt;
      asked = tt;
      short = fell_at_once (λ (events : List Event). g.I.Intake.gave intake events intake) (g.I.Intake.ended intake) c.args.outfit.core.plan (g.O.Outlet.state c.args.ways.outlet) (g.I.Intake.gave_none intake);
    }

pub returns-in-Err-clause-prompt : goal.returns-in-Err-clause-prompt
returns-in-Err-clause-prompt g c = prompt_none (g.I.Intake.asked c.args.ways.intake) c.args.ways.intake c.args.outfit.core.plan (g.O.Outlet.state c.args.ways.outlet) (g.I.Intake.asked_none c.args.ways.intake)

pub returns-clause-ends : goal.returns-clause-ends
returns-clause-ends g c = rw (c.in-Ok.ensures.terms.0, c.in-Ok.ensures.terms.1, c.in-Ok.ensures.core) at c.under.ensures.ends

pub returns-clause-crew : goal.returns-clause-crew
returns-clause-crew g c = rw c.in-Ok.ensures.crew at c.under.ensures.crew

pub returns-clause-prompt : goal.returns-clause-prompt
returns-clause-prompt g c = rw c.in-Ok.ensures.core at c.under.ensures.prompt
