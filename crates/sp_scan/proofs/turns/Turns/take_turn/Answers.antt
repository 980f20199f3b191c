use Rattle.std.proofs.Common.{◌≡◌, ℕ, ◌+◌, ◌++◌, ◌∷◌, [], true, false, None, length, refl, sym, ap, subst, ◌∙◌, arith}
use Rattle.std.specs.List.{All}
use Rattle.std.proofs.lemmas.Bool.Decides.{nat_tests}
use Rattle.std.proofs.lemmas.List.Elements.{All-head}
use Rattle.std.proofs.lemmas.Result.{IfOk-weaker}
use Rattle.sp_base.specs.Numbers.{is_among}
use Rattle.sp_plan.specs.Runs.{Handling, Started, departs, handle_run, holds_one, offered, takes}
use Rattle.sp_scan.specs.declared.run.Run as own
use Rattle.sp_scan.specs.inside.Ahead.{IsReady}
use Rattle.sp_scan.specs.inside.Offer.{numbered}
use Rattle.sp_scan.specs.inside.Shown.{IsTurn, ShowsTurns}
use Rattle.sp_scan.proofs.SplitLists.{first_of_rest, read_there, rest_there}
use Rattle.sp_scan.proofs.TurnsShow.{held_alike, ready_later, shows_kept, turn_held, turn_offered, turn_used}
use Rattle.sp_scan.proofs.TurnsTaken.{offers, turned_as, turned_free, turned_leaves, turned_over, turned_stays}
use Rattle.sp_scan.proofs.turns.Turns.take_turn.Goals as goal

pub passes_over-requires-clause-ahead : goal.passes_over-requires-clause-ahead
passes_over-requires-clause-ahead c =
    let ready = first_of_rest (IsReady c.args.offer.now.plan.now c.args.offer.now.number) c.args.self.now.runs.items c.args.at c.index.result.now c.requires.left.within c.requires.left.ready c.index.ensures in
    ready.ahead_is

pub returns-then-passes_over-clause-turn : goal.returns-then-passes_over-clause-turn
returns-then-passes_over-clause-turn c = λ kept rest run split size.
    let o = c.args.offer.now in
    let old = c.args.self.now in
    let listed : length c.list.result.now ≡ 0 = grind (arith, nat_tests) in
    let is_run : c.index.result.now ≡ run = c.index.ensures ∙ read_there old.runs.items kept rest run c.args.at split size c.index.result.now in
    let none : takes o.plan.now run.pairs o.event.now ≡ None = ap (λ (r : own.Run). takes o.plan.now r.pairs o.event.now) (sym is_run) ∙ c.passes_over.ensures.none c.if-passes_over.true in
    let stays : departs o.plan.now run.pairs o.event.now ≡ false = ap (λ (r : own.Run). departs o.plan.now r.pairs o.event.now) (sym is_run) ∙ c.passes_over.ensures.stays c.if-passes_over.true in
    turned_free o old old (c.args.at + 1) kept rest run (sym (ap length c.list.ensures.list) ∙ listed) (turned_over o old c.args.at kept rest run split size c.requires.left.ready none stays)

pub returns-then-is_empty-clause-turn : goal.returns-then-is_empty-clause-turn
returns-then-is_empty-clause-turn c =
    let o = c.args.offer.now in
    let old = c.args.self.now in
    let listed : length c.list.result.now ≡ 0 = grind (arith, nat_tests) in
    IfOk-weaker c.offered.result (λ (left : ℕ). IsTurn o.plan.now (o.number + 1) old c.offered.new.self c.args.at left (offers o)) (λ (left : ℕ). IsTurn o.plan.now (o.number + 1) old c.offered.new.self c.args.at left (handle_run o.plan.now (numbered o)))
    (λ left turn kept rest run split size. turned_free o old c.offered.new.self left kept rest run (sym (ap length c.list.ensures.list) ∙ listed) (turn kept rest run split size)) c.offered.ensures.turn

pub returns-then-hold_one-clause-turn : goal.returns-then-hold_one-clause-turn
returns-then-hold_one-clause-turn c = λ kept rest run split size.
    let q = c.args.offer.now.plan.now in
    let x = numbered c.args.offer.now in
    let next = c.args.offer.now.number + 1 in
    let old = c.args.self.now in
    let taken = old.taken.list in
    let is_run : c.index-2.result.now ≡ run = c.index-2.ensures ∙ read_there old.runs.items kept rest run c.args.at split size c.index-2.result.now in
    let held : holds_one taken run.pairs ≡ true = ap (λ (r : own.Run). holds_one taken r.pairs) (sym is_run) ∙ sym c.hold_one.ensures ∙ c.if-hold_one.true in
    turned_leaves q next old (record old { runs = c.remove.new.self }) c.args.at kept rest run (handle_run q x) split size c.remove.ensures.items
    (λ h m before. subst (λ (h' : Handling). ShowsTurns q next h' kept old.found.items taken) (sym (turn_held q x h (m, run.pairs) (sym (held_alike taken h.taken run.pairs before.taken_are) ∙ held))) before)

pub returns-then-has-clause-turn : goal.returns-then-has-clause-turn
returns-then-has-clause-turn c = λ kept rest run split size.
    let q = c.args.offer.now.plan.now in
    let x = numbered c.args.offer.now in
    let number = c.args.offer.now.number in
    let next = number + 1 in
    let old = c.args.self.now in
    let taken = old.taken.list in
    let is_run : c.index-2.result.now ≡ run = c.index-2.ensures ∙ read_there old.runs.items kept rest run c.args.at split size c.index-2.result.now in
    let free : holds_one taken run.pairs ≡ false = ap (λ (r : own.Run). holds_one taken r.pairs) (sym is_run) ∙ sym c.hold_one.ensures ∙ c.if-hold_one.false in
    let used : is_among taken number ≡ true = sym c.has.ensures ∙ c.if-has.true in
    let ready : IsReady q number run = All-head (IsReady q number) run rest (subst (All (IsReady q number)) (rest_there old.runs.items kept (run ∷ rest) c.args.at split size) c.requires.left.ready) in
    turned_stays q next old old c.args.at kept rest run (handle_run q x) split size refl
    (λ h m before. subst (λ (h' : Handling). ShowsTurns q next h' (kept ++ run ∷ []) old.found.items taken)
    (sym (turn_used q x h (m, run.pairs) (sym (held_alike taken h.taken run.pairs before.taken_are) ∙ free) (sym (before.taken_are number) ∙ used)))
    (shows_kept q next h kept old.found.items taken run m before (ready_later q number run ready)))

pub returns-clause-turn : goal.returns-clause-turn
returns-clause-turn c =
    let q = c.args.offer.now.plan.now in
    let x = numbered c.args.offer.now in
    let number = c.args.offer.now.number in
    let next = number + 1 in
    let old = c.args.self.now in
    let taken = old.taken.list in
    let change : Handling → Started → Handling = λ h run. offered q x h run (takes q run.1 x.1) in
    IfOk-weaker c.offered-2.result (λ (left : ℕ). IsTurn q next old c.offered-2.new.self c.args.at left change) (λ (left : ℕ). IsTurn q next old c.offered-2.new.self c.args.at left (handle_run q x))
    (λ left turn kept rest run split size.
    let is_run : c.index-2.result.now ≡ run = c.index-2.ensures ∙ read_there old.runs.items kept rest run c.args.at split size c.index-2.result.now in
    let free : holds_one taken run.pairs ≡ false = ap (λ (r : own.Run). holds_one taken r.pairs) (sym is_run) ∙ sym c.hold_one.ensures ∙ c.if-hold_one.false in
    let unused : is_among taken number ≡ false = sym c.has.ensures ∙ c.if-has.false in
    turned_as q next old c.offered-2.new.self left kept rest run change (handle_run q x) (turn kept rest run split size)
    (λ h m before. sym (turn_offered q x h (m, run.pairs) (sym (held_alike taken h.taken run.pairs before.taken_are) ∙ free) (sym (before.taken_are number) ∙ unused)))) c.offered-2.ensures.turn
