use Rattle.std.proofs.Common.{arith}
use Rattle.sp_base.proofs.TakenBack.{may_be_cut}
use Rattle.sp_base.proofs.commas.push_commas.Goals as goal

pub truncate-requires : goal.truncate-requires
truncate-requires c = λ _. may_be_cut c.args.out.now c.push_joined.new.out _ (omega arith) c.in-Err.ensures.err
