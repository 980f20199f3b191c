use Rattle.std.proofs.Common.{ℕ, ap, ◌∙◌}
use Rattle.std.specs.Prelude.{nat_le}
use Rattle.sp_compile.proofs.WindowLimits.{rounded_up}
use Rattle.sp_compile.proofs.window.is_in_few.Goals as goal

pub returns : goal.returns
returns c = ap (λ (n : ℕ). nat_le n 64) (c.div_ceil.ensures ∙ rounded_up c.args.size c.args.step c.requires)
