use Rattle.std.proofs.Common.{◌≡◌, ◌++◌, ◌∷◌, [], ℕ, List, map, sym, ap, subst, ◌∙◌, arith}
use Rattle.std.specs.Prelude.{IfSome}
use Rattle.sp_piece.specs.declared.job.Job.{Job}
use Rattle.sp_group.specs.declared.step.Entry as step
use Rattle.sp_group.specs.Family.{entry_at}
use Rattle.sp_tree.specs.Grown.{kin}
use Rattle.sp_group.specs.declared.step.Step.TheVariants as s
use Rattle.sp_core.specs.declared.news.News.{News}
use Rattle.sp_core.specs.Carrying.{ticket_of}
use Rattle.sp_core.specs.Holding.{Holding, IsCore, holding}
use Rattle.sp_core.specs.Returning.{IsCarried, IsPlaceOf, reading_entries}
use Rattle.sp_core.specs.Rooms.{room}
use Rattle.sp_core.specs.Running.{Running, once}
use Rattle.sp_core.proofs.Coming.{can_bring, can_settle, coming}
use Rattle.sp_core.proofs.ComesHome.{core_comes, given_comes, heard_home, place_within}
use Rattle.sp_core.proofs.Roomier.{core_left, core_made, running_left}
use Rattle.sp_core.proofs.HomeSettled.{on_err}
use Rattle.sp_core.proofs.machine.Core.take_home.Goals as goal

pub brings-requires : goal.brings-requires
brings-requires c =
    let h = holding c.self.inside in
    let is = subst (λ (r : Running). IsCarried r c.args.piece.job) (sym c.self.view_is) c.requires in
    can_bring c.home_laws.ensures h c.args.piece (coming h c.args.piece c.self.invariant c.readings_of-times.ensures.within is)

pub settle-requires : goal.settle-requires
settle-requires c =
    let h = holding c.self.inside in
    let is = subst (λ (r : Running). IsCarried r c.args.piece.job) (sym c.self.view_is) c.requires in
    can_settle c.home_laws.ensures h c.args.piece (coming h c.args.piece c.self.invariant c.readings_of-times.ensures.within is) c.in-Ok.brought c.in-Ok.ensures

pub invariant_of-self-in_err-settle : goal.invariant_of-self-in_err-settle
invariant_of-self-in_err-settle c =
    let made = c.make_rooms_for in
    let k : Holding = record (holding c.self.inside) {
      tree = c.settle.new.tree;
      emitted = made.new.emitted.items;
      consumed = made.new.consumed;
      journal = made.new.journal.items;
      journal_room = room made.new.journal;
      emitted_room = room made.new.emitted;
    } in
    subst (λ (ns : List News). IsCore (record k { news = ns })) (sym c.reserve.ensures.items)
    (core_left (holding c.self.inside) c.self.invariant c.args.piece.job.version c.settle.new.tree c.in_err-settle.ensures.err
    made.new.emitted.items made.new.consumed made.new.journal.items (room made.new.journal) (room made.new.emitted)
    made.ensures.emitted made.ensures.consumed made.ensures.journal made.ensures.consumed_kept made.ensures.journal_kept made.ensures.emitted_kept)

pub invariant_of-self-in_default-make_rooms_for : goal.invariant_of-self-in_default-make_rooms_for
invariant_of-self-in_default-make_rooms_for c =
    let made = c.make_rooms_for in
    core_made (holding c.self.inside) c.self.invariant made.new.emitted.items made.new.consumed made.new.journal.items c.reserve.new.self.items (room made.new.journal) (room made.new.emitted)
    made.ensures.emitted made.ensures.consumed made.ensures.journal c.reserve.ensures.items made.ensures.consumed_kept made.ensures.journal_kept made.ensures.emitted_kept

pub returns-in_err-settle-clause-err : goal.returns-in_err-settle-clause-err
returns-in_err-settle-clause-err c =
    let made = c.make_rooms_for in
    on_err c.from_residual.result _ (running_left (holding c.self.inside) c.self.invariant c.args.piece.job.version c.settle.new.tree c.in_err-settle.ensures.err
    made.new.emitted.items made.new.consumed made.new.journal.items (room made.new.journal) (room made.new.emitted)
    made.ensures.emitted made.ensures.consumed made.ensures.journal made.ensures.consumed_kept made.ensures.journal_kept made.ensures.emitted_kept ∙ c.self.view_is)

pub remove-requires : goal.remove-requires
remove-requires c =
    let at = subst (λ (r : Running). IsPlaceOf r.machine.tickets c.job.result.now.ticket c.in-Some.place) (sym c.self.view_is) c.in-Some.ensures.some in
    let within = place_within c.self.inside.tickets.items c.job.result.now.ticket c.in-Some.place at in
    let many = c.self.inside.tickets.ok.0 in
    omega arith

pub invariant_of-self-2 : goal.invariant_of-self-2
invariant_of-self-2 c =
    let h = holding c.self.inside in
    let p = c.args.piece in
    let n = p.job.ticket in
    let is = subst (λ (r : Running). IsCarried r p.job) (sym c.self.view_is) c.requires in
    let at = subst (λ (j : Job). IsPlaceOf (map ticket_of h.tickets) j.ticket c.in-Some.place) c.job.ensures
    (subst (λ (r : Running). IsPlaceOf r.machine.tickets c.job.result.now.ticket c.in-Some.place) (sym c.self.view_is) c.in-Some.ensures.some) in
    let made = c.make_rooms_for in
    let journal = c.enter_return.ensures.items
    ∙ ap (λ (es : List step.Entry). es ++ reading_entries c.job.result.now.ticket c.readings_of-times.result ++ once (s.Return c.job.result.now.ticket) ∷ []) made.ensures.journal
    ∙ ap (λ (j : Job). h.journal ++ reading_entries j.ticket c.readings_of-times.result ++ once (s.Return j.ticket) ∷ []) c.job.ensures
    ∙ ap (λ (times : ℕ). h.journal ++ reading_entries n times ++ once (s.Return n) ∷ []) c.readings_of-times.ensures.readings in
    let of = subst (λ (j : Job). IfSome (entry_at kin h.tree.entries j.version) (λ e. c.window_of-window.result ≡ e.value.window)) c.job-2.ensures c.window_of-window.ensures in
    let heard = heard_home c.home_laws.ensures h p (coming h p c.self.invariant c.readings_of-times.ensures.within is) c.window_of-window.result c.job-3.result.now.first
    c.reserve.new.self.items c.hear.new.news.items of (ap (λ (j : Job). j.first) c.job-3.ensures) c.reserve.ensures.items c.hear.ensures in
    core_comes c.home_laws.ensures h p (coming h p c.self.invariant c.readings_of-times.ensures.within is) c.in-Ok.brought c.in-Ok.ensures c.settle.new.tree c.in_ok-settle.ensures.ok
    c.in_ok-settle.ensures.grown c.remove.new.self.items made.new.emitted.items made.new.consumed c.enter_return.new.journal.items c.hear.new.news.items (room c.enter_return.new.journal) (room made.new.emitted)
    c.in-Some.place at c.remove.ensures.items made.ensures.emitted made.ensures.consumed journal heard
    (omega (arith, c.in-Ok-make_rooms_for.ensures.journal_room, c.enter_return.ensures.kept)) c.in-Ok-make_rooms_for.ensures.emitted_room c.in-Ok-make_rooms_for.ensures.consumed_room

pub returns-clause-home : goal.returns-clause-home
returns-clause-home c =
    let h = holding c.self.inside in
    let p = c.args.piece in
    let n = p.job.ticket in
    let is = subst (λ (r : Running). IsCarried r p.job) (sym c.self.view_is) c.requires in
    let at = subst (λ (j : Job). IsPlaceOf (map ticket_of h.tickets) j.ticket c.in-Some.place) c.job.ensures
    (subst (λ (r : Running). IsPlaceOf r.machine.tickets c.job.result.now.ticket c.in-Some.place) (sym c.self.view_is) c.in-Some.ensures.some) in
    let made = c.make_rooms_for in
    let journal = c.enter_return.ensures.items
    ∙ ap (λ (es : List step.Entry). es ++ reading_entries c.job.result.now.ticket c.readings_of-times.result ++ once (s.Return c.job.result.now.ticket) ∷ []) made.ensures.journal
    ∙ ap (λ (j : Job). h.journal ++ reading_entries j.ticket c.readings_of-times.result ++ once (s.Return j.ticket) ∷ []) c.job.ensures
    ∙ ap (λ (times : ℕ). h.journal ++ reading_entries n times ++ once (s.Return n) ∷ []) c.readings_of-times.ensures.readings in
    let of = subst (λ (j : Job). IfSome (entry_at kin h.tree.entries j.version) (λ e. c.window_of-window.result ≡ e.value.window)) c.job-2.ensures c.window_of-window.ensures in
    let heard = heard_home c.home_laws.ensures h p (coming h p c.self.invariant c.readings_of-times.ensures.within is) c.window_of-window.result c.job-3.result.now.first
    c.reserve.new.self.items c.hear.new.news.items of (ap (λ (j : Job). j.first) c.job-3.ensures) c.reserve.ensures.items c.hear.ensures in
    given_comes c.home_laws.ensures h p (coming h p c.self.invariant c.readings_of-times.ensures.within is) c.in-Ok.brought c.in-Ok.ensures c.settle.new.tree c.in_ok-settle.ensures.ok
    c.in_ok-settle.ensures.grown c.remove.new.self.items made.new.emitted.items made.new.consumed c.enter_return.new.journal.items c.hear.new.news.items (room c.enter_return.new.journal) (room made.new.emitted)
    c.in-Some.place at c.remove.ensures.items made.ensures.emitted made.ensures.consumed journal heard
    c.args.self.now c.self.view_is
