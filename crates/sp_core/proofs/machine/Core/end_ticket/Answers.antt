use Rattle.std.proofs.Common.{◌≡◌, ◌++◌, ◌∷◌, [], List, Some, sym, ap, subst, ◌∙◌, arith}
use Rattle.sp_group.specs.declared.step.Entry.{Entry}
use Rattle.sp_group.specs.declared.step.Step.TheVariants as s
use Rattle.sp_group.specs.Machine.{ticket_at}
use Rattle.sp_core.specs.Carrying.{ticket_of}
use Rattle.sp_core.specs.Returning.{IsPlaceOf, without_ticket}
use Rattle.sp_core.specs.Rooms.{room}
use Rattle.sp_core.specs.Running.{Running, after, once}
use Rattle.sp_core.specs.Holding.{holding}
use Rattle.sp_core.proofs.Carried.{place_within}
use Rattle.sp_core.proofs.Ended.{out_at, core_ended, machine_left, running_ended}
use Rattle.sp_core.proofs.machine.Core.end_ticket.Goals as goal

pub remove-lent-requires : goal.remove-lent-requires
remove-lent-requires c =
    let at = subst (λ (r : Running). IsPlaceOf r.machine.tickets c.args.ticket c.in-Some.place) (sym c.self.view_is) c.in-Some.ensures.some in
    let within = place_within c.self.inside.tickets.items c.in-Some.place at.0 at.1 in
    let many = c.self.inside.tickets.ok.0 in
    omega arith

pub invariant_of-self-2 : goal.invariant_of-self-2
invariant_of-self-2 c =
    let h = holding c.self.inside in
    let n = c.args.ticket in
    let d = c.remove-lent.result in
    let left = c.remove-lent.new.self.items in
    let at = subst (λ (r : Running). IsPlaceOf r.machine.tickets n c.in-Some.place) (sym c.self.view_is) c.in-Some.ensures.some in
    let out = out_at c.every_schedule.ensures h c.self.invariant n c.in-Some.place d left at c.remove-lent.ensures.value c.remove-lent.ensures.items in
    let journal = c.enter.ensures.items ∙ ap (λ (es : List Entry). es ++ once (s.Return n) ∷ []) c.make_room.ensures.items in
    core_ended h n d left out (room c.enter.new.journal) c.put_back_for.new.tree c.enter.new.journal.items c.put_back_for.ensures journal
    (omega (arith, c.in_ok-make_room.ensures.ok, c.enter.ensures.kept, c.live.ensures.live))

pub returns-clause-lent : goal.returns-clause-lent
returns-clause-lent c =
    let h = holding c.self.inside in
    let n = c.args.ticket in
    let d = c.remove-lent.result in
    let left = c.remove-lent.new.self.items in
    let at = subst (λ (r : Running). IsPlaceOf r.machine.tickets n c.in-Some.place) (sym c.self.view_is) c.in-Some.ensures.some in
    let out = out_at c.every_schedule.ensures h c.self.invariant n c.in-Some.place d left at c.remove-lent.ensures.value c.remove-lent.ensures.items in
    subst (λ (r : Running). ticket_at r.machine.tickets n ≡ Some (ticket_of d)) c.self.view_is out.out

pub returns-clause-ok : goal.returns-clause-ok
returns-clause-ok c =
    let h = holding c.self.inside in
    let n = c.args.ticket in
    let d = c.remove-lent.result in
    let left = c.remove-lent.new.self.items in
    let at = subst (λ (r : Running). IsPlaceOf r.machine.tickets n c.in-Some.place) (sym c.self.view_is) c.in-Some.ensures.some in
    let out = out_at c.every_schedule.ensures h c.self.invariant n c.in-Some.place d left at c.remove-lent.ensures.value c.remove-lent.ensures.items in
    let journal = c.enter.ensures.items ∙ ap (λ (es : List Entry). es ++ once (s.Return n) ∷ []) c.make_room.ensures.items in
    running_ended h n d left out (room c.enter.new.journal) c.put_back_for.new.tree c.enter.new.journal.items c.put_back_for.ensures journal
    ∙ ap (λ (r : Running). after r (s.Return n)) c.self.view_is

pub returns-clause-left : goal.returns-clause-left
returns-clause-left c =
    let h = holding c.self.inside in
    let n = c.args.ticket in
    let d = c.remove-lent.result in
    let left = c.remove-lent.new.self.items in
    let at = subst (λ (r : Running). IsPlaceOf r.machine.tickets n c.in-Some.place) (sym c.self.view_is) c.in-Some.ensures.some in
    let out = out_at c.every_schedule.ensures h c.self.invariant n c.in-Some.place d left at c.remove-lent.ensures.value c.remove-lent.ensures.items in
    let journal = c.enter.ensures.items ∙ ap (λ (es : List Entry). es ++ once (s.Return n) ∷ []) c.make_room.ensures.items in
    let new = running_ended h n d left out (room c.enter.new.journal) c.put_back_for.new.tree c.enter.new.journal.items c.put_back_for.ensures journal in
    ap (λ (r : Running). r.machine) new
    ∙ machine_left h n d left out
    ∙ ap (λ (r : Running). without_ticket r.machine n) c.self.view_is
