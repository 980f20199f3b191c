use Rattle.std.proofs.Common.{◌+◌, List, refl, sym, subst, arith}
use Rattle.sp_plan.specs.declared.event.Event.{Event}
use Rattle.sp_slack.specs.Standing.{kept_of}
use Rattle.sp_commands.proofs.Holding.{Gave, none_given, all_gave, turns_over, one_given}
use Rattle.sp_commands.proofs.sorted.release.Goals as goal

pub loop-init : goal.loop-init
loop-init c = λ events stands.
    let first = kept_of c.args.held.now in
    subst (λ (l : List Event). Gave first first events l 0) (sym c.in_ok-given.ensures.items) (none_given first events stands)

pub returns-in-None : goal.returns-in-None
returns-in-None c = λ events stands count.
    let gave = c.loop.invariant events stands in
    all_gave (kept_of c.args.held.now) (kept_of c.loop.held) events c.loop.given.items c.loop.counter gave (c.in-None.ensures.none events c.loop.counter gave.stands refl)

pub loop-preserved : goal.loop-preserved
loop-preserved c = λ events stands.
    let gave = c.loop.invariant events stands in
    let next = c.in-Some.ensures.event events c.loop.counter gave.stands c.in-Some.event refl in
    subst (λ (l : List Event). Gave (kept_of c.args.held.now) (kept_of c.next.new.self) events l (c.loop.counter + 1)) (sym c.in_ok-push-in-Some.ensures.items)
    (one_given (kept_of c.args.held.now) (kept_of c.loop.held) events c.loop.given.items c.loop.counter gave (kept_of c.next.new.self) c.in-Some.event next.0 next.1 c.in-Some.ensures.rest)

pub returns : goal.returns
returns c = λ events stands count.
    let gave = c.loop.invariant events stands in
    turns_over (kept_of c.args.held.now) (kept_of c.loop.held) events c.loop.given.items c.loop.counter gave (omega (arith, count, c.loop-test.false))
