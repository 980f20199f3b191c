use Rattle.std.proofs.Common.{ap, ◌∙◌, subst}
use Rattle.sp_match.specs.public.Matching.{Matching}
use Rattle.sp_piece.specs.Keeping.{ClosedOff, current}
use Rattle.sp_piece.specs.Pieced.{has_closing}
use Rattle.sp_piece.proofs.Kept.{closing_next, kept_closed}
use Rattle.sp_piece.proofs.piece.Piece.read_closing.Goals as goal

pub invariant_of-self-2 : goal.invariant_of-self-2
invariant_of-self-2 c =
    let p = c.self.inside in
    let next = closing_next (record { job = p.job; read = p.read; closed = p.closed; short = p.short }) c.self.invariant.within (ap has_closing c.self.view_is ∙ c.requires) in
    kept_closed p.job p.read p.closed p.short p.matcher c.handle_closing.new.matcher p.telling.entries c.self.invariant next.1 next.0 next.2
    (subst (λ (m : Matching). ClosedOff (current p.matcher m) (current c.handle_closing.new.matcher m)) c.get-before.ensures c.in_ok-handle_closing.ensures.ok)
