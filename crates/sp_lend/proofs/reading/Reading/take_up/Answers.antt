use Rattle.std.proofs.Common.{◌≡◌, ℕ, ◌≤◌, true, length, sym, ◌∙◌, subst}
use Rattle.sp_piece.specs.Pieced.{Pieced, StepsLead}
use Rattle.sp_lend.proofs.TakenUp.{whole_is_led}
use Rattle.sp_lend.proofs.reading.Reading.take_up.Goals as goal

pub returns-clause-steps : goal.returns-clause-steps
returns-clause-steps g c = λ taken.
    let piece = c.self.inside.piece in
    let within : piece.read ≤ length piece.job.events = subst (λ (n : ℕ). n ≤ length piece.job.events) c.read.ensures.read c.read.ensures.most in
    let last : piece.closed ≡ true → piece.read ≡ length piece.job.events = λ shut. c.closed.ensures.last (c.closed.ensures.closed ∙ shut) in
    let lent : piece.closed ≡ true → piece.job.closes ≡ true = λ shut. c.closed.ensures.lent (c.closed.ensures.closed ∙ shut) in
    let led : StepsLead piece c.take_up.new.piece = subst (StepsLead piece) (sym (c.take_up.ensures.whole taken)) (whole_is_led piece within last lent) in
    subst (λ (p : Pieced). StepsLead p c.take_up.new.piece) c.self.view_is led
