use Rattle.sp_cert.proofs.Right.{right_are_proofs}
use Rattle.sp_cert.proofs.law.local_and_pass_are_proofs.Goals as goal

pub returns : goal.returns
returns c = λ q limits events ended entries good. right_are_proofs q limits events good ended entries
