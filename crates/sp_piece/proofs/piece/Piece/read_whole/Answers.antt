use Rattle.std.proofs.Common.{◌≡◌, false, sym, ap, ◌∙◌, subst}
use Rattle.sp_piece.specs.Pieced.{Pieced, StepsLead}
use Rattle.sp_piece.proofs.Stepping.{one_more, read_on_leads}
use Rattle.sp_piece.proofs.piece.Piece.read_whole.Goals as goal

pub returns-in_err-read_events-clause-steps : goal.returns-in_err-read_events-clause-steps
returns-in_err-read_events-clause-steps c =
    let whole : c.args.self.now.short ≡ false = sym (ap (λ (p : Pieced). p.short) c.self.view_is) ∙ c.if-self.false in
    let open_ : c.args.self.now.closed ≡ false = sym (ap (λ (p : Pieced). p.closed) c.self.view_is) ∙ c.if-self-2.false in
    read_on_leads c.args.self.now c.read_events.new.self whole open_ c.read_events.ensures.on

pub returns-in_err-read_closing-clause-steps : goal.returns-in_err-read_closing-clause-steps
returns-in_err-read_closing-clause-steps c =
    let whole : c.args.self.now.short ≡ false = sym (ap (λ (p : Pieced). p.short) c.self.view_is) ∙ c.if-self.false in
    let open_ : c.args.self.now.closed ≡ false = sym (ap (λ (p : Pieced). p.closed) c.self.view_is) ∙ c.if-self-2.false in
    subst (StepsLead c.args.self.now) (sym c.in_err-read_closing.ensures.err) (read_on_leads c.args.self.now c.read_events.new.self whole open_ c.read_events.ensures.on)

pub returns-in_ok-read_closing-clause-steps : goal.returns-in_ok-read_closing-clause-steps
returns-in_ok-read_closing-clause-steps c =
    let whole : c.args.self.now.short ≡ false = sym (ap (λ (p : Pieced). p.short) c.self.view_is) ∙ c.if-self.false in
    let open_ : c.args.self.now.closed ≡ false = sym (ap (λ (p : Pieced). p.closed) c.self.view_is) ∙ c.if-self-2.false in
    one_more c.args.self.now c.read_events.new.self c.read_closing.new.self (read_on_leads c.args.self.now c.read_events.new.self whole open_ c.read_events.ensures.on) c.in_ok-read_closing.ensures.next

pub returns-else-self-3-clause-steps : goal.returns-else-self-3-clause-steps
returns-else-self-3-clause-steps c =
    let whole : c.args.self.now.short ≡ false = sym (ap (λ (p : Pieced). p.short) c.self.view_is) ∙ c.if-self.false in
    let open_ : c.args.self.now.closed ≡ false = sym (ap (λ (p : Pieced). p.closed) c.self.view_is) ∙ c.if-self-2.false in
    read_on_leads c.args.self.now c.read_events.new.self whole open_ c.read_events.ensures.on
