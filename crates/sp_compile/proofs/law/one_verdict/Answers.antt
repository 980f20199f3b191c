use Rattle.sp_compile.proofs.OneFault.{one_fault}
use Rattle.sp_compile.proofs.SomeVerdict.{some_verdict}
use Rattle.sp_compile.proofs.law.one_verdict.Goals as goal

pub returns : goal.returns
returns c = record { some = some_verdict; only = one_fault }
