use Rattle.std.proofs.Common.{◌≡◌, ◌≤◌, false, ◌∙◌, arith}
use Rattle.std.specs.Prelude.{nat_lt}
use Rattle.std.proofs.lemmas.Bool.Decides.{nat_tests}
use Rattle.sp_base.specs.Limits.{row_limit}
use Rattle.sp_cut.proofs.Short.{not_long}
use Rattle.sp_cut.proofs.cut.Cutter.is_too_long.Goals as goal

pub returns-else-size-gt-ROW_LIMIT : goal.returns-else-size-gt-ROW_LIMIT
returns-else-size-gt-ROW_LIMIT c =
    let few : c.args.size ≤ row_limit = grind (arith, nat_tests, c.if-size-gt-ROW_LIMIT.false) in
    let none : nat_lt row_limit c.args.size ≡ false = grind (arith, nat_tests, few) in
    none ∙ not_long c.args.self.now c.args.size few
