use Rattle.std.proofs.Common.{refl, arith}
use Rattle.sp_base.proofs.TakenBack.{may_be_cut}
use Rattle.sp_emit.proofs.write.push_match_line.Goals as goal

pub truncate-requires : goal.truncate-requires
truncate-requires c = λ _. may_be_cut c.args.out.now c.push_line.new.out _ (omega arith) c.in-Err.ensures.err

pub returns-clause-back : goal.returns-clause-back
returns-clause-back c = λ binds. record { held = c.in_default.ensures.held; binds = binds; is = refl }
