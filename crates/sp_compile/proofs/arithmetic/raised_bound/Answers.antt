use Rattle.std.proofs.Common.{arith}
use Rattle.sp_compile.proofs.Powers.{power_small}
use Rattle.sp_compile.proofs.arithmetic.raised_bound.Goals as goal

pub pow-requires : goal.pow-requires
pow-requires c = omega (arith, power_small c.from.result (omega (arith, c.requires, c.from.ensures)))
