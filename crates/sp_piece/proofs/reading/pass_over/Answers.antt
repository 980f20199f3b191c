use Rattle.std.proofs.Common.{◌≡◌, ◌≤◌, ap, length, arith}
use Rattle.sp_piece.proofs.Passing.{kept_passed}
use Rattle.sp_piece.proofs.reading.pass_over.Goals as goal

pub returns-clause-kept : goal.returns-clause-kept
returns-clause-kept c =
    let job = c.args.job.now in
    let low = c.if-number-job.false in
    let high = c.if-number-job-2.false in
    let long : length c.as_slice.result.now ≡ length job.events = ap length c.as_slice.ensures in
    let is = c.in_ok-read_to.ensures.ok in
    let first : job.first ≤ c.args.number = omega (arith, low) in
    kept_passed job c.read_to.new.read c.args.number c.read_to.new.matcher c.read_to.new.telling.entries c.read_to.ensures.kept c.requires.skipped first is
    (omega (arith, low, high, long, is))
