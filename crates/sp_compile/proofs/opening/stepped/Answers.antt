use Rattle.std.proofs.Common.{◌≡◌, Some, None, sym, ◌∙◌}
use Rattle.std.specs.Prelude.{if◌then◌else◌}
use Rattle.sp_base.specs.Limits.{step_limit}
use Rattle.sp_compile.specs.declared.fault.CompileFault.TheVariants as f
use Rattle.sp_compile.specs.Checks.{step_is_fine}
use Rattle.sp_compile.proofs.Staged.{exit}
use Rattle.sp_compile.proofs.WindowLimits.{true_where, within_limits, step_of_time, step_of_events}
use Rattle.sp_compile.proofs.opening.stepped.Goals as goal

pub returns-in_err-pass-clause-refused : goal.returns-in_err-pass-clause-refused
returns-in_err-pass-clause-refused c =
    exit (λ fault. (if step_is_fine c.args.query.now.length.0 c.args.query.now.length.1 c.args.step c.args.unit then None else Some (f.BadWindow c.args.span)) ≡ Some fault) _ _ c.from_residual.ensures.1 (sym c.step_fault.ensures ∙ c.in_err-pass.ensures.refused)

pub plan_step-requires-clause-time : goal.plan_step-requires-clause-time
plan_step-requires-clause-time c =
    step_of_time c.args.query.now.length.0 c.args.query.now.length.1 c.args.step c.args.unit (true_where _ (f.BadWindow c.args.span) (sym c.step_fault.ensures ∙ c.in_ok-pass.ensures.passes))

pub plan_step-requires-clause-events : goal.plan_step-requires-clause-events
plan_step-requires-clause-events c =
    λ out. (within_limits c.args.step step_limit (step_of_events c.args.query.now.length.0 c.args.query.now.length.1 c.args.step c.args.unit (true_where _ (f.BadWindow c.args.span) (sym c.step_fault.ensures ∙ c.in_ok-pass.ensures.passes)) out)).1

pub returns-clause-fine : goal.returns-clause-fine
returns-clause-fine c = true_where _ (f.BadWindow c.args.span) (sym c.step_fault.ensures ∙ c.in_ok-pass.ensures.passes)
