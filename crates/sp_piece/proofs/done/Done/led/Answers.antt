use Rattle.std.proofs.Common.{ap, ◌∙◌, subst}
use Rattle.std.specs.Option.{option_map}
use Rattle.sp_match.specs.public.Matching.{Matching}
use Rattle.sp_piece.specs.Done.{IsDone, Lent, under}
use Rattle.sp_piece.proofs.Taking.{taken_up}
use Rattle.sp_piece.proofs.done.Done.led.Goals as goal

pub returns : goal.returns
returns c =
    let d = c.self.inside in
    let done : IsDone c.args.self.now d.after d.telling.entries = subst (λ (l : Lent). IsDone l d.after d.telling.entries) c.self.view_is c.self.invariant in
    taken_up c.same_plans_read_alike.ensures c.args.self.now c.args.job.now c.requires d.after c.in_ok-matcher.matcher d.telling.entries c.in_ok-copy.field-0.entries done
    (c.in_ok-matcher.ensures ∙ ap (λ (m : Matching). option_map (under m.plan) d.after) c.get.ensures)
    c.in_ok-copy.ensures
