use Rattle.std.proofs.Common.{◌≡◌, ◌<◌, ◌≤◌, length, refl, subst, arith, None}
use Rattle.sp_group.specs.Machine.{ticket_at}
use Rattle.sp_core.specs.Returning.{IsPlaceOf}
use Rattle.sp_core.specs.Running.{Running}
use Rattle.sp_core.proofs.TicketPlaces.{place_found, place_further, no_place}
use Rattle.sp_core.proofs.machine.Core.place_of.Goals as goal

pub loop-i-init : goal.loop-i-init
loop-i-init c = refl

pub loop-i-preserved : goal.loop-i-preserved
loop-i-preserved c =
    let ls = c.self.inside.tickets.items in
    let few : c.loop-i.i < length ls = let a = c.loop-i-test.true in let b = c.len-i-end.ensures in let n = c.self.inside.tickets.ok.0 in omega arith in
    place_further ls c.args.ticket c.loop-i.i c.index.result.now c.index.ensures few c.if-index-ticket.false c.loop-i.invariant

pub returns-then-index-ticket-clause-some : goal.returns-then-index-ticket-clause-some
returns-then-index-ticket-clause-some c =
    let ls = c.self.inside.tickets.items in
    let few : c.loop-i.i < length ls = let a = c.loop-i-test.true in let b = c.len-i-end.ensures in let n = c.self.inside.tickets.ok.0 in omega arith in
    subst (λ (r : Running). IsPlaceOf r.machine.tickets c.args.ticket c.loop-i.i) c.self.view_is
    (place_found ls c.args.ticket c.loop-i.i c.index.result.now c.index.ensures few c.if-index-ticket.true c.loop-i.invariant)

pub returns-clause-none : goal.returns-clause-none
returns-clause-none c none =
    let ls = c.self.inside.tickets.items in
    let most : length ls ≤ c.loop-i.i = let a = c.loop-i-test.false in let b = c.len-i-end.ensures in let n = c.self.inside.tickets.ok.0 in omega arith in
    subst (λ (r : Running). ticket_at r.machine.tickets c.args.ticket ≡ None) c.self.view_is (no_place ls c.args.ticket c.loop-i.i most c.loop-i.invariant)
