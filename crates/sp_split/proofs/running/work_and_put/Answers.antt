use Rattle.std.proofs.Common.{[], Err, refl}
use Rattle.sp_split.proofs.Taken.{took_first, took_none}
use Rattle.sp_split.proofs.running.work_and_put.Goals as goal

pub returns-in-Err-clause-short : goal.returns-in-Err-clause-short
returns-in-Err-clause-short g c =
    let q = g.O.Outlet.plan c.args.outlet.now in
    let s = g.O.Outlet.state c.args.outlet.now in
    let lost = (c.requires.works _ (Err c.in-Err.field-0) _ c.requires.ready c.in-Err.ensures).short in
    λ _. (lost.0, lost.1, took_first q [] lost.0 lost.0 s s refl (took_none q s))
