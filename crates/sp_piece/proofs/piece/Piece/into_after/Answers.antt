use Rattle.std.proofs.Common.{◌∙◌, ap, sym}
use Rattle.sp_piece.specs.Keeping.{current}
use Rattle.sp_piece.proofs.Kept.{unread}
use Rattle.sp_piece.proofs.piece.Piece.into_after.Goals as goal

pub returns-in-Some-clause-unread : goal.returns-in-Some-clause-unread
returns-in-Some-clause-unread c = λ none not_closed.
    let p = c.self.inside in
    c.led.ensures
    ∙ ap (λ o. current o p.job.before) (sym c.in-Some.is ∙ c.into_matcher.ensures)
    ∙ unread _ p.matcher p.telling.entries c.self.invariant (ap (λ s. s.read) c.self.view_is ∙ none) (ap (λ s. s.closed) c.self.view_is ∙ not_closed)
    ∙ ap (λ s. s.job.before) c.self.view_is
