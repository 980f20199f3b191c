use Rattle.std.proofs.Common.{◌≡◌, length, ap, ◌∙◌, arith}
use Rattle.sp_piece.specs.Done.{Lent, lent_by}
use Rattle.sp_piece.proofs.Taking.{copy_done, same_flags}
use Rattle.sp_piece.proofs.piece.Piece.keep.Goals as goal

pub invariant_of-result : goal.invariant_of-result
invariant_of-result c =
    let p = c.self.inside in
    let job = p.job in
    let long : length c.as_slice-events.result.now ≡ length job.events = ap length c.as_slice-events.ensures in
    let most = c.if-self-events.false in
    let within = c.self.invariant.within in
    let lent : Lent = record { before = c.in_ok-again.field-0; events = c.of.result; first = job.first; snapshot = c.in_ok-copy.field-0.list; closes = job.closes } in
    let events = c.of.ensures ∙ c.in_ok-copies.ensures ∙ c.as_slice-events.ensures in
    let lends : lent ≡ lent_by job = λ i. record { before = c.in_ok-again.ensures i; events = events i; first = job.first; snapshot = c.in_ok-copy.ensures i; closes = job.closes } in
    copy_done job p.read p.closed p.short p.matcher c.in_ok-copy-2.field-0 p.telling.entries c.in_ok-copy-3.field-0.entries lent c.self.invariant
    (omega (arith, long, most, within)) (same_flags p.closed job.closes c.if-self-job.false) lends c.in_ok-copy-2.ensures
    c.in_ok-copy-3.ensures
