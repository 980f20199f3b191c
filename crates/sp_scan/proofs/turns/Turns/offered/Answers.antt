use Rattle.std.proofs.Common.{◌≡◌, ◌+◌, ℕ, List, None, Option, true, false, length, refl, sym, ap, subst, ◌∙◌, arith}
use Rattle.std.specs.Prelude.{if◌then◌else◌}
use Rattle.sp_plan.specs.Runs.{Handling, Started, departs, kept_with, offered, takes}
use Rattle.sp_scan.specs.declared.run.Run as own
use Rattle.sp_scan.specs.inside.Ahead.{IsReady}
use Rattle.sp_scan.specs.inside.Offer.{numbered}
use Rattle.sp_scan.specs.inside.Shown.{IsGrown, ShowsTurns}
use Rattle.sp_scan.proofs.SplitLists.{first_of_rest, read_there, written_back}
use Rattle.sp_scan.proofs.TurnsTaken.{any_takes, turned_leaves, turned_over}
use Rattle.sp_scan.proofs.turns.Turns.offered.Goals as goal

pub takes-requires-clause-ahead : goal.takes-requires-clause-ahead
takes-requires-clause-ahead c =
    let ready = first_of_rest (IsReady c.args.offer.now.plan.now c.args.offer.now.number) c.args.self.now.runs.items c.args.at c.index.result.now c.requires.left.within c.requires.left.ready c.index.ensures in
    ready.ahead_is

pub departs-requires-clause-ahead : goal.departs-requires-clause-ahead
departs-requires-clause-ahead c =
    let ready = first_of_rest (IsReady c.args.offer.now.plan.now c.args.offer.now.number) c.args.self.now.runs.items c.args.at c.index-in-None.result.now c.requires.left.within c.requires.left.ready c.index-in-None.ensures in
    ready.ahead_is

pub returns-in_ok-bind_at-in-Some-clause-turn : goal.returns-in_ok-bind_at-in-Some-clause-turn
returns-in_ok-bind_at-in-Some-clause-turn c =
    let o = c.args.offer.now in
    let old = c.args.self.now in
    any_takes c.settle.result o old _ c.settle.new.self c.args.at c.in-Some.name c.settle.ensures
    (subst (λ (l : List own.Run). IsGrown o old.runs.items l c.args.at c.in-Some.name) (sym (written_back old.runs.items c.bind_at.new.runs old.runs.len (omega (arith, old.runs.ok.0)) (c.bind_at.auto.runs ∙ ap length c.deref_mut.ensures.value)))
    (λ kept rest run split size. c.in_ok-bind_at-in-Some.ensures.grown kept rest run (c.deref_mut.ensures.value ∙ split) size)) refl refl
    (λ kept rest run split size. ap (λ (r : own.Run). takes o.plan.now r.pairs o.event.now) (sym (c.index.ensures ∙ read_there old.runs.items kept rest run c.args.at split size c.index.result.now)) ∙ sym c.takes.ensures ∙ c.in-Some.is)

pub returns-then-departs-clause-turn : goal.returns-then-departs-clause-turn
returns-then-departs-clause-turn c = λ kept rest run split size.
    let q = c.args.offer.now.plan.now in
    let x = numbered c.args.offer.now in
    let next = c.args.offer.now.number + 1 in
    let old = c.args.self.now in
    let change : Handling → Started → Handling = λ h run. offered q x h run (takes q run.1 x.1) in
    let is_run : c.index.result.now ≡ run = c.index.ensures ∙ read_there old.runs.items kept rest run c.args.at split size c.index.result.now in
    let is_run' : c.index-in-None.result.now ≡ run = c.index-in-None.ensures ∙ read_there old.runs.items kept rest run c.args.at split size c.index-in-None.result.now in
    let none : takes q run.pairs x.1 ≡ None = ap (λ (r : own.Run). takes q r.pairs x.1) (sym is_run) ∙ sym c.takes.ensures ∙ c.in-None.is in
    let leaves : departs q run.pairs x.1 ≡ true = ap (λ (r : own.Run). departs q r.pairs x.1) (sym is_run') ∙ sym c.departs.ensures ∙ c.if-departs.true in
    turned_leaves q next old (record old { runs = c.remove.new.self }) c.args.at kept rest run change split size c.remove.ensures.items
    (λ h m before. subst (λ (o : Option ℕ). ShowsTurns q next (offered q x h (m, run.pairs) o) kept old.found.items old.taken.list) (sym none)
    (subst (λ b. ShowsTurns q next (if b then h else kept_with h (m, run.pairs)) kept old.found.items old.taken.list) (sym leaves) before))

pub returns-else-departs-clause-turn : goal.returns-else-departs-clause-turn
returns-else-departs-clause-turn c = λ kept rest run split size.
    let o = c.args.offer.now in
    let old = c.args.self.now in
    let is_run : c.index.result.now ≡ run = c.index.ensures ∙ read_there old.runs.items kept rest run c.args.at split size c.index.result.now in
    let is_run' : c.index-in-None.result.now ≡ run = c.index-in-None.ensures ∙ read_there old.runs.items kept rest run c.args.at split size c.index-in-None.result.now in
    let none : takes o.plan.now run.pairs o.event.now ≡ None = ap (λ (r : own.Run). takes o.plan.now r.pairs o.event.now) (sym is_run) ∙ sym c.takes.ensures ∙ c.in-None.is in
    let stays : departs o.plan.now run.pairs o.event.now ≡ false = ap (λ (r : own.Run). departs o.plan.now r.pairs o.event.now) (sym is_run') ∙ sym c.departs.ensures ∙ c.if-departs.false in
    turned_over o old c.args.at kept rest run split size c.requires.left.ready none stays
