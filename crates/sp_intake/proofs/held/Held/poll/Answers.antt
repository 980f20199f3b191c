use Rattle.std.proofs.Common.{Some}
use Rattle.sp_intake.specs.Laws.{gives_none, sound_at}
use Rattle.sp_intake.specs.RowsSeen.{rows_at, held_of}
use Rattle.sp_intake.specs.Standing.{with_held}
use Rattle.sp_intake.proofs.held.Held.poll.Goals as goal

pub returns-then-not-is_end-clause-gives : goal.returns-then-not-is_end-clause-gives
returns-then-not-is_end-clause-gives c source =
    let rows = rows_at source c.args.rows.now in
    let held = held_of c.args.self.now in
    gives_none (with_held rows (Some held)) (sound_at rows (Some held) c.requires.holds)

pub returns-in-Broken-clause-gives : goal.returns-in-Broken-clause-gives
returns-in-Broken-clause-gives c source =
    let rows = rows_at source c.args.rows.now in
    let held = held_of c.args.self.now in
    gives_none (with_held rows (Some held)) (sound_at rows (Some held) c.requires.holds)
