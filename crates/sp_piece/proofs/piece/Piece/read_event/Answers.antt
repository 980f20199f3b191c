use Rattle.std.proofs.Common.{◌<◌, length, sym, ◌∙◌, ap}
use Rattle.sp_piece.proofs.Kept.{kept_skipped, read_within}
use Rattle.sp_piece.proofs.Stepping.{as_going}
use Rattle.sp_piece.specs.Pieced.{has_event}
use Rattle.sp_piece.proofs.piece.Piece.read_event.Goals as goal

pub invariant_of-self : goal.invariant_of-self
invariant_of-self c =
    let p = c.self.inside in
    let within : p.read < length p.job.events = read_within (record { job = p.job; read = p.read; closed = p.closed; short = p.short }) (ap has_event c.self.view_is ∙ c.requires) in
    kept_skipped p.job p.read p.closed p.short p.matcher p.telling.entries c.self.invariant within (sym c.has.ensures ∙ c.if-has.true)

pub read_next-requires-clause-kept : goal.read_next-requires-clause-kept
read_next-requires-clause-kept c =
    let p = c.self.inside in
    let within : p.read < length p.job.events = read_within (record { job = p.job; read = p.read; closed = p.closed; short = p.short }) (ap has_event c.self.view_is ∙ c.requires) in
    as_going p.job p.read p.closed p.short p.matcher p.telling.entries c.self.invariant within
