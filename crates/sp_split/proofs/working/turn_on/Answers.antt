use Rattle.std.proofs.Common.{◌≤◌, arith}
use Rattle.sp_split.proofs.Due.{due_later}
use Rattle.sp_split.proofs.working.turn_on.Goals as goal

pub relieve-requires : goal.relieve-requires
relieve-requires g c =
    let more = c.in_ok-turn.ensures.turned.on.finished in
    let number = c.finished.ensures.number in
    let later : c.args.core.now.machine.finished ≤ c.finished.result = omega arith in
    due_later c.args.team.now.relay c.args.core.now.machine.finished c.finished.result later c.requires.due
