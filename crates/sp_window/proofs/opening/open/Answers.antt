use Rattle.std.proofs.Common.{◌≢◌, ◌+◌, ◌++◌, ap, sym, ◌∙◌}
use Rattle.std.proofs.lemmas.List.{append-nil}
use Rattle.sp_window.proofs.Multiples.{none_opens}
use Rattle.sp_window.proofs.opening.open.Goals as goal

pub returns-then-from-next-clause-opened : goal.returns-then-from-next-clause-opened
returns-then-from-next-clause-opened c =
    let other : c.args.number ≢ c.args.next + 1 = λ same. c.if-from-next.true (c.from.ensures ∙ same) in
    let none = none_opens c.args.plan.now.opening c.in-EveryEvents.step c.args.plan.now.length c.args.number c.args.next c.args.event.now c.in-EveryEvents.is c.requires.ahead c.requires.from_one other in
    sym (ap (λ l. c.args.records.now.items ++ l) none ∙ append-nil c.args.records.now.items)
