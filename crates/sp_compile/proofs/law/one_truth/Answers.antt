use Rattle.sp_compile.proofs.OneTruth.{one_value, one_truth}
use Rattle.sp_compile.proofs.law.one_truth.Goals as goal

pub returns-clause-value : goal.returns-clause-value
returns-clause-value c = one_value

pub returns-clause-truth : goal.returns-clause-truth
returns-clause-truth c = one_truth
