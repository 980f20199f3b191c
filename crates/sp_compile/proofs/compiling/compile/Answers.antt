use Rattle.std.proofs.Common.{rules}
use Rattle.sp_compile.proofs.Staged.{is_found}
use Rattle.sp_compile.proofs.compiling.compile.Goals as goal

pub returns-in_err-names-clause-only : goal.returns-in_err-names-clause-only
returns-in_err-names-clause-only c = λ found checks. is_found c.args.query.now found c.from_residual.result (search rules) (search rules) checks

pub returns-clause-only : goal.returns-clause-only
returns-clause-only c = λ found checks. is_found c.args.query.now found c.planned.result c.planned.ensures.plan c.planned.ensures.refused checks
