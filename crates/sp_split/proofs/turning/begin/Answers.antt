use Rattle.std.proofs.Common.{◌≡◌, Some, None, List, ℕ, subst}
use Rattle.sp_group.specs.declared.step.Step.TheVariants as s
use Rattle.sp_core.specs.Running.{refused}
use Rattle.sp_split.proofs.AllDone.{none_to_make, idle}
use Rattle.sp_split.proofs.turning.begin.Goals as goal

pub returns-in-Err-Refused-clause-turned : goal.returns-in-Err-Refused-clause-turned
returns-in-Err-Refused-clause-turned c =
    let old = c.args.core.now in
    let fault = rw c.in-Err-Refused.field-0-is at c.in-Err-Refused.ensures.fault in
    let refused = subst (λ (l : List ℕ). refused old (s.Spawn None l) ≡ Some c.in-Err-Refused.field-0-0) c.empty.ensures fault in
    idle old c.spawn.new.self c.in-Err-Refused.ensures.err c.requires.none_out
    (none_to_make old.plan old.bound old.machine c.steps_lead_to.ensures.reached c.steps_lead_to.ensures.compiled c.closed_come_first.ensures c.in-Err-Refused.field-0-0 c.requires.none refused)
