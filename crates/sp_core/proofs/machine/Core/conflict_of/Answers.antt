use Rattle.std.proofs.Common.{◌≡◌, ℕ, false, List, map, not, is_some, sym, ap, subst, ◌∙◌}
use Rattle.std.specs.Prelude.{IsSome, nat_le}
use Rattle.sp_group.specs.Machine.{ticket_at, version_at}
use Rattle.sp_core.specs.declared.lent.Lent.{Lent}
use Rattle.sp_core.specs.declared.news.News.{News}
use Rattle.sp_core.specs.Carrying.{ticket_of}
use Rattle.sp_core.specs.Holding.{holding}
use Rattle.sp_core.specs.Running.{Running}
use Rattle.sp_core.specs.News.{is_new}
use Rattle.sp_core.specs.Suppressing.{conflict_at, is_unskipped, least_suppressed}
use Rattle.sp_core.proofs.HeldConflict.{conflict_gone, found_lent, found_none, found_read, is_live, never_gone, no_number, none_above, nothing_new, old_lent, old_read}
use Rattle.sp_core.proofs.Journal.{reached}
use Rattle.sp_core.proofs.machine.Core.conflict_of.Goals as goal

pub returns-then-is_none : goal.returns-then-is_none
returns-then-is_none c =
    let h = holding c.self.inside in
    none_above h (reached c.every_schedule.ensures h c.self.invariant) c.args.version
    (sym c.parent.ensures ∙ no_number c.parent.result (c.is_none.ensures ∙ ap not c.if-is_none.true))
    ∙ ap (λ (r : Running). conflict_at r.plan r.machine c.args.version) c.self.view_is

pub returns-in_err-from : goal.returns-in_err-from
returns-in_err-from c =
    let h = holding c.self.inside in
    let new : (i : ℕ) → is_new h.news c.in_ok-held.held.now.window i ≡ false = λ i. ap (λ (ns : List News). is_new ns c.in_ok-held.held.now.window i) (sym c.deref.ensures.value) ∙ c.in_err-from.ensures i in
    c.from_residual-in_err-from.ensures
    ∙ nothing_new h c.self.invariant (reached c.every_schedule.ensures h c.self.invariant) c.args.version c.in_ok-held.held.now c.in_ok-held.ensures new
    ∙ ap (λ (r : Running). conflict_at r.plan r.machine c.args.version) c.self.view_is

pub returns-in_err-held : goal.returns-in_err-held
returns-in_err-held c =
    c.from_residual.ensures ∙ conflict_gone (holding c.self.inside) c.args.version c.in_err-held.ensures
    ∙ ap (λ (r : Running). conflict_at r.plan r.machine c.args.version) c.self.view_is

pub least_suppressed_from-read-requires : goal.least_suppressed_from-read-requires
least_suppressed_from-read-requires c =
    let h = holding c.self.inside in
    let held = c.in_ok-held.held.now in
    let new : (i : ℕ) → is_new h.news held.window i ≡ nat_le c.in_ok-from.from i = λ i. ap (λ (ns : List News). is_new ns held.window i) (sym c.deref.ensures.value) ∙ c.in_ok-from.ensures i in
    record {
      old = λ i low. ap (λ (r : Running). is_unskipped r.plan r.machine c.args.version held.first held.position held.skipped.list i) (sym c.self.view_is)
          ∙ old_read h c.self.invariant (reached c.every_schedule.ensures h c.self.invariant) c.args.version held c.in_ok-held.ensures c.in_ok-from.from new i low;
      live = subst (λ (r : Running). IsSome (version_at r.machine.versions c.args.version)) c.self.view_is
          (is_live h c.self.invariant (reached c.every_schedule.ensures h c.self.invariant) c.args.version c.in_ok-held.held.now c.in_ok-held.ensures);
    }

pub returns-then-is_some : goal.returns-then-is_some
returns-then-is_some c =
    let h = holding c.self.inside in
    let held = c.in_ok-held.held.now in
    let read = c.least_suppressed_from-read.ensures ∙ ap (λ (r : Running). least_suppressed r.plan r.machine c.args.version held.first held.position held.skipped.list) (sym c.self.view_is) in
    read
    ∙ found_read h c.self.invariant (reached c.every_schedule.ensures h c.self.invariant) c.args.version held c.in_ok-held.ensures
    (ap is_some (sym read) ∙ sym c.is_some.ensures ∙ c.if-is_some.true)
    ∙ ap (λ (r : Running). conflict_at r.plan r.machine c.args.version) c.self.view_is

pub returns-in_err-ticket : goal.returns-in_err-ticket
returns-in_err-ticket c =
    let h = holding c.self.inside in
    let held = c.in_ok-held.held.now in
    let read = c.least_suppressed_from-read.ensures ∙ ap (λ (r : Running). least_suppressed r.plan r.machine c.args.version held.first held.position held.skipped.list) (sym c.self.view_is) in
    c.from_residual-in_err-ticket.ensures
    ∙ found_none h c.self.invariant (reached c.every_schedule.ensures h c.self.invariant) c.args.version held c.in_ok-held.ensures
    (ap is_some (sym read) ∙ sym c.is_some.ensures ∙ c.if-is_some.false) c.in_err-ticket.was
    ∙ ap (λ (r : Running). conflict_at r.plan r.machine c.args.version) c.self.view_is

pub returns-in_err-lent : goal.returns-in_err-lent
returns-in_err-lent c =
    let h = holding c.self.inside in
    absurd (never_gone h c.self.invariant (reached c.every_schedule.ensures h c.self.invariant) c.args.version c.in_ok-held.held.now c.in_ok-held.ensures
    c.in_ok-ticket.ticket c.in_ok-ticket.was
    (c.in_err-lent.ensures ∙ ap (λ (ls : List Lent). ticket_at (map ticket_of ls) c.in_ok-ticket.ticket) c.deref-2.ensures.value))

pub least_suppressed_from-requires : goal.least_suppressed_from-requires
least_suppressed_from-requires c =
    let h = holding c.self.inside in
    let held = c.in_ok-held.held.now in
    let lent = c.in_ok-lent.lent.now in
    let new : (i : ℕ) → is_new h.news held.window i ≡ nat_le c.in_ok-from.from i = λ i. ap (λ (ns : List News). is_new ns held.window i) (sym c.deref.ensures.value) ∙ c.in_ok-from.ensures i in
    record {
      old = λ i low. ap (λ (r : Running). is_unskipped r.plan r.machine c.args.version lent.first lent.count lent.snapshot.list i) (sym c.self.view_is)
          ∙ old_lent h c.self.invariant (reached c.every_schedule.ensures h c.self.invariant) c.args.version held c.in_ok-held.ensures c.in_ok-from.from new c.in_ok-ticket.ticket lent c.in_ok-ticket.was
          (c.in_ok-lent.ensures ∙ ap (λ (ls : List Lent). ticket_at (map ticket_of ls) c.in_ok-ticket.ticket) c.deref-2.ensures.value) i low;
      live = subst (λ (r : Running). IsSome (version_at r.machine.versions c.args.version)) c.self.view_is
          (is_live h c.self.invariant (reached c.every_schedule.ensures h c.self.invariant) c.args.version c.in_ok-held.held.now c.in_ok-held.ensures);
    }

pub returns : goal.returns
returns c =
    let h = holding c.self.inside in
    let held = c.in_ok-held.held.now in
    let lent = c.in_ok-lent.lent.now in
    let read = c.least_suppressed_from-read.ensures ∙ ap (λ (r : Running). least_suppressed r.plan r.machine c.args.version held.first held.position held.skipped.list) (sym c.self.view_is) in
    c.least_suppressed_from.ensures ∙ ap (λ (r : Running). least_suppressed r.plan r.machine c.args.version lent.first lent.count lent.snapshot.list) (sym c.self.view_is)
    ∙ found_lent h c.self.invariant (reached c.every_schedule.ensures h c.self.invariant) c.args.version held c.in_ok-held.ensures
    (ap is_some (sym read) ∙ sym c.is_some.ensures ∙ c.if-is_some.false) c.in_ok-ticket.ticket lent c.in_ok-ticket.was
    (c.in_ok-lent.ensures ∙ ap (λ (ls : List Lent). ticket_at (map ticket_of ls) c.in_ok-ticket.ticket) c.deref-2.ensures.value)
    ∙ ap (λ (r : Running). conflict_at r.plan r.machine c.args.version) c.self.view_is
