use Rattle.std.proofs.Common.{◌∙◌, ap, subst, sym}
use Rattle.sp_match.specs.declared.moves.Moves.{Moves}
use Rattle.sp_match.specs.public.Matching.{Matching}
use Rattle.sp_piece.specs.Begun.{begun}
use Rattle.sp_piece.specs.Keeping.{HandledOn, current}
use Rattle.sp_piece.proofs.Joining.{handled_from_room}
use Rattle.sp_piece.proofs.going.offer_event.Goals as goal

pub returns-clause-ok : goal.returns-clause-ok
returns-clause-ok c =
    let handled = c.in_ok-offer.ensures in
    let ready = c.in_ok-settle.ensures in
    let room : Moves = record { list = c.keep_completions.new.moves; wanted = c.offer.new.room.wanted } in
    let led = ap (λ o. current o c.args.before.now) (ap begun (sym c.in-Begun.is) ∙ c.matcher.view_is ∙ c.in_ok-begin.ensures.there) in
    subst (λ (m : Matching). HandledOn c.args.next.now.wants (c.args.next.now.number, c.args.next.now.event.now) m c.offer.new.led c.args.telling.now.entries c.settle-2.new.self.entries) led
    (handled_from_room c.args.next.now.wants (c.args.next.now.number, c.args.next.now.event.now) _ c.offer.new.led c.args.telling.now.entries c.settle.new.self.entries c.settle-2.new.self.entries room _
    handled.plan handled.stands handled.told c.keep_completions.ensures handled.wanted handled.none handled.below ready.same ready.settled c.settle-2.ensures.same)
