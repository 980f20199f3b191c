use Rattle.std.proofs.Common.{◌≡◌, ◌++◌, ◌∷◌, [], List, None, map, sym, ap, subst, ◌∙◌, arith, true, if◌then◌else◌}
use Rattle.std.proofs.lemmas.Result.{err_from_is_err_and}
use Rattle.std.specs.Result.{is_ok}
use Rattle.sp_group.specs.declared.step.Step.TheVariants as s
use Rattle.sp_group.specs.declared.step.Entry.{Entry}
use Rattle.sp_core.specs.declared.lent.Lent.{Lent}
use Rattle.sp_core.specs.Carrying.{ticket_of}
use Rattle.sp_core.specs.Leasing.{IsLent}
use Rattle.sp_core.specs.Rooms.{room}
use Rattle.sp_core.specs.Running.{Running, after, once, refused}
use Rattle.sp_core.specs.Holding.{holding, machine_of, running}
use Rattle.sp_core.proofs.HomeSettled.{on_err, on_none}
use Rattle.sp_core.proofs.Leased.{leases, core_leased, running_leased}
use Rattle.sp_core.proofs.machine.Core.put_out.Goals as goal

pub invariant_of-self-2 : goal.invariant_of-self-2
invariant_of-self-2 c =
    let h = holding c.self.inside in
    let lent = c.args.lent in
    let n = c.args.count in
    let before = c.self.view_is ∙ c.job.ensures.same in
    let is = subst (λ (r : Running). IsLent r lent.version n lent) (sym before) c.requires.lent in
    let passes = subst (λ (r : Running). refused r (s.Lease lent.version n) ≡ None) (sym before) c.requires.passes in
    let inserted : is_ok c.insert.result ≡ true = c.insert.ensures.succeeds (omega (arith, c.in_ok-reserve.ensures.ok)) in
    let tickets = c.insert.ensures.items ∙ ap (λ b. if b then lent ∷ c.reserve.new.self.items else c.reserve.new.self.items) inserted ∙ ap (λ ts. lent ∷ ts) c.reserve.ensures.items in
    let journal = c.enter.ensures.items ∙ ap (λ (es : List Entry). es ++ once (s.Lease lent.version n) ∷ []) c.make_room.ensures.items in
    core_leased h lent n (leases h lent n c.self.invariant is passes) c.put_out_for.new.tree c.insert.new.self.items c.enter.new.journal.items (room c.enter.new.journal)
    c.put_out_for.ensures tickets journal (omega (arith, c.in_ok-make_room.ensures.ok, c.enter.ensures.kept, c.live.ensures.live))

pub returns-clause-ok : goal.returns-clause-ok
returns-clause-ok c =
    let h = holding c.self.inside in
    let lent = c.args.lent in
    let n = c.args.count in
    let before = c.self.view_is ∙ c.job.ensures.same in
    let is = subst (λ (r : Running). IsLent r lent.version n lent) (sym before) c.requires.lent in
    let passes = subst (λ (r : Running). refused r (s.Lease lent.version n) ≡ None) (sym before) c.requires.passes in
    let inserted : is_ok c.insert.result ≡ true = c.insert.ensures.succeeds (omega (arith, c.in_ok-reserve.ensures.ok)) in
    let tickets = c.insert.ensures.items ∙ ap (λ b. if b then lent ∷ c.reserve.new.self.items else c.reserve.new.self.items) inserted ∙ ap (λ ts. lent ∷ ts) c.reserve.ensures.items in
    let journal = c.enter.ensures.items ∙ ap (λ (es : List Entry). es ++ once (s.Lease lent.version n) ∷ []) c.make_room.ensures.items in
    running_leased h lent n (leases h lent n c.self.invariant is passes) c.put_out_for.new.tree c.insert.new.self.items c.enter.new.journal.items (room c.enter.new.journal)
    c.put_out_for.ensures tickets journal
    ∙ ap (λ (r : Running). after r (s.Lease lent.version n)) before

pub returns-in_err-make_room-clause-err : goal.returns-in_err-make_room-clause-err
returns-in_err-make_room-clause-err c =
    let h = holding c.self.inside in
    on_err _ _ (ap (λ (es : List Entry). record (running h) { journal = es }) c.make_room.ensures.items ∙ c.self.view_is ∙ c.job.ensures.same)

pub returns-in_err-reserve-clause-err : goal.returns-in_err-reserve-clause-err
returns-in_err-reserve-clause-err c =
    let h = holding c.self.inside in
    on_err _ _
    (ap (λ (ts : List Lent). record (running h) { journal = c.make_room.new.journal.items; machine = record (machine_of h) { tickets = map ticket_of ts } }) c.reserve.ensures.items
    ∙ ap (λ (es : List Entry). record (running h) { journal = es }) c.make_room.ensures.items
    ∙ c.self.view_is ∙ c.job.ensures.same)

pub returns-in_err-reserve-clause-ok : goal.returns-in_err-reserve-clause-ok
returns-in_err-reserve-clause-ok c =
    let failed = err_from_is_err_and c.from_residual-in_err-reserve.result c.from_residual-in_err-reserve.ensures.1 in
    on_none _ _ failed.0 failed.1
