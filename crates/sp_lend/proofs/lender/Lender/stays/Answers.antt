use Rattle.std.proofs.Common.{subst}
use Rattle.sp_plan.specs.Compiled.{IsCompiled}
use Rattle.sp_lend.specs.Truth.{StaysTrue}
use Rattle.sp_lend.proofs.StaysLent.{stays_true}
use Rattle.sp_lend.proofs.lender.Lender.stays.Goals as goal

pub returns : goal.returns
returns g c =
    let core = c.self.inside.core in
    subst StaysTrue c.self.view_is
    (stays_true c.lent_stays.ensures core (subst IsCompiled c.plan.ensures.plan c.plan.ensures.compiled)
    (c.compiled_plans_are_lawful.ensures core.plan (subst IsCompiled c.plan.ensures.plan c.plan.ensures.compiled)) c.finished.ensures.reached.kept)
