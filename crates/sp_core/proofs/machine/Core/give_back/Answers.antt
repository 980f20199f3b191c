use Rattle.std.proofs.Common.{◌≡◌, Some, is_some, sym, subst, ◌∙◌, arith, true, false}
use Rattle.sp_piece.specs.declared.job.Job.{Job}
use Rattle.sp_group.specs.declared.step.Step.TheVariants as s
use Rattle.sp_group.specs.Machine.{ticket_at, version_at}
use Rattle.sp_core.specs.Carrying.{ticket_of}
use Rattle.sp_core.specs.Returning.{IsPlaceOf, IsCarried, without_ticket}
use Rattle.sp_core.specs.Running.{Running, after}
use Rattle.sp_core.specs.Holding.{holding}
use Rattle.sp_core.proofs.Carried.{out_there, place_within}
use Rattle.sp_core.proofs.GivenBack.{same_version, stale, differs}
use Rattle.sp_core.proofs.Pruning.{live_where_got}
use Rattle.sp_core.proofs.machine.Core.give_back.Goals as goal

pub index-requires : goal.index-requires
index-requires c =
    let h = holding c.self.inside in
    let at = subst (λ (r : Running). IsPlaceOf r.machine.tickets c.args.piece.job.ticket c.in-Some.place) (sym c.self.view_is)
    (subst (λ (job : Job). IsPlaceOf c.args.self.now.machine.tickets job.ticket c.in-Some.place) c.job.ensures c.in-Some.ensures.some) in
    let n = c.self.inside.tickets.ok.0 in
    let few = place_within h.tickets c.in-Some.place at.0 at.1 in
    omega arith

pub returns-then-live-clause-given : goal.returns-then-live-clause-given
returns-then-live-clause-given c =
    let h = holding c.self.inside in
    let at = subst (λ (r : Running). IsPlaceOf r.machine.tickets c.args.piece.job.ticket c.in-Some.place) (sym c.self.view_is)
    (subst (λ (job : Job). IsPlaceOf c.args.self.now.machine.tickets job.ticket c.in-Some.place) c.job.ensures c.in-Some.ensures.some) in
    let d = c.index.result.now in
    let out = subst (λ (r : Running). ticket_at r.machine.tickets c.args.piece.job.ticket ≡ Some (ticket_of d)) c.self.view_is
    (out_there h.tickets c.args.piece.job.ticket c.in-Some.place d at c.index.ensures) in
    let is = subst (λ (job : Job). ticket_at c.args.self.now.machine.tickets job.ticket ≡ Some (ticket_of c.in-Ok.lent)) c.job.ensures c.in-Ok.ensures.lent in
    let new = subst (λ (job : Job). c.end_ticket.new.self ≡ after c.args.self.now (s.Return job.ticket)) c.job.ensures c.in-Ok.ensures.ok in
    let live = subst (λ (r : Running). is_some (version_at r.machine.versions d.version) ≡ true) c.self.view_is
    (live_where_got h.tree.entries d.version c.get.result c.get.ensures ∙ sym c.is_some-live.ensures ∙ c.if-live.true) in
    let left = subst (λ (job : Job). c.end_ticket.new.self.machine ≡ without_ticket c.args.self.now.machine job.ticket) c.job.ensures c.in-Ok.ensures.left in
    differs c.args.self.now c.end_ticket.new.self c.args.piece c.in-Ok.lent d.version is (same_version c.in-Ok.lent d _ is out) new left live
    (λ carried. let yes = c.is_carried.ensures.1 (subst (IsCarried c.args.self.now) (sym c.job-2.ensures) carried) in let not = c.if-is_carried.false in cc)

pub returns-clause-given : goal.returns-clause-given
returns-clause-given c =
    let h = holding c.self.inside in
    let at = subst (λ (r : Running). IsPlaceOf r.machine.tickets c.args.piece.job.ticket c.in-Some.place) (sym c.self.view_is)
    (subst (λ (job : Job). IsPlaceOf c.args.self.now.machine.tickets job.ticket c.in-Some.place) c.job.ensures c.in-Some.ensures.some) in
    let d = c.index.result.now in
    let out = subst (λ (r : Running). ticket_at r.machine.tickets c.args.piece.job.ticket ≡ Some (ticket_of d)) c.self.view_is
    (out_there h.tickets c.args.piece.job.ticket c.in-Some.place d at c.index.ensures) in
    let is = subst (λ (job : Job). ticket_at c.args.self.now.machine.tickets job.ticket ≡ Some (ticket_of c.in-Ok.lent)) c.job.ensures c.in-Ok.ensures.lent in
    let new = subst (λ (job : Job). c.end_ticket.new.self ≡ after c.args.self.now (s.Return job.ticket)) c.job.ensures c.in-Ok.ensures.ok in
    let live = subst (λ (r : Running). is_some (version_at r.machine.versions d.version) ≡ false) c.self.view_is
    (live_where_got h.tree.entries d.version c.get.result c.get.ensures ∙ sym c.is_some-live.ensures ∙ c.if-live.false) in
    stale c.args.self.now c.retire.new.self c.args.piece c.in-Ok.lent d.version is (same_version c.in-Ok.lent d _ is out) (c.retire.ensures ∙ new) live
