use Rattle.std.proofs.Common.{◌≡◌, ℕ, ◌==◌, List, length, map, string_bytes, Some, true, false, sym, ◌∙◌, ap, subst, arith}
use Rattle.std.proofs.lemmas.Bool.Decides.{nat_tests}
use Rattle.sp_base.specs.Limits.{event_limit}
use Rattle.sp_plan.specs.declared.event.Event.{Event}
use Rattle.sp_plan.specs.Bounds.{AllSmall}
use Rattle.sp_graph.specs.Derived.{Deriving}
use Rattle.sp_graph.proofs.LastBound.{last_small}
use Rattle.sp_graph.proofs.Walking.{going, past_ends, full_ends, goes_on}
use Rattle.sp_graph.proofs.outcome.take_matches.Goals as goal

pub event_of-requires-clause-small : goal.event_of-requires-clause-small
event_of-requires-clause-small c =
    subst AllSmall (sym c.in_ok-bind_last.ensures) (last_small c.args.layout.now.events.now c.requires.small c.found-item.result.bound)

pub loop-found-init : goal.loop-found-init
loop-found-init c = record {
  table = c.requires.table;
  none = c.requires.none;
  derived = λ j. going (c.requires.first j) (c.requires.known j);
}

pub returns-in_default-clause-limit : goal.returns-in_default-clause-limit
returns-in_default-clause-limit c =
    let all = past_ends c.args.layout.now.returns.now c.args.layout.now.events.now (map string_bytes c.args.layout.now.texts.now) c.args.layout.now.second.now c.args.matches.now
    c.loop-found.found-index c.found-item.result c.loop-found-test.true c.found-item.is c.loop-found.own.items c.loop-found.carried.table.known c.loop-found.invariant.derived
    c.bind_last.new.bound c.in_ok-bind_last.ensures c.event_of.new.table.known c.in_ok-event.field-0 c.in_ok-event.ensures.event c.in_default.is in
    sym (ap (λ (d : Deriving). d.limit) all)

pub returns-in_default-clause-events : goal.returns-in_default-clause-events
returns-in_default-clause-events c =
    let all = past_ends c.args.layout.now.returns.now c.args.layout.now.events.now (map string_bytes c.args.layout.now.texts.now) c.args.layout.now.second.now c.args.matches.now
    c.loop-found.found-index c.found-item.result c.loop-found-test.true c.found-item.is c.loop-found.own.items c.loop-found.carried.table.known c.loop-found.invariant.derived
    c.bind_last.new.bound c.in_ok-bind_last.ensures c.event_of.new.table.known c.in_ok-event.field-0 c.in_ok-event.ensures.event c.in_default.is in
    sym (ap (λ (d : Deriving). d.events) all)

pub returns-then-len-clause-limit : goal.returns-then-len-clause-limit
returns-then-len-clause-limit c =
    let own = c.loop-found.own.items in
    let count = c.len.ensures in
    let test = c.if-len.true in
    let full : (length own == event_limit) ≡ true = grind (arith, nat_tests) in
    let all = full_ends c.args.layout.now.returns.now c.args.layout.now.events.now (map string_bytes c.args.layout.now.texts.now) c.args.layout.now.second.now c.args.matches.now
    c.loop-found.found-index c.found-item.result c.loop-found-test.true c.found-item.is c.loop-found.own.items c.loop-found.carried.table.known c.loop-found.invariant.derived
    c.bind_last.new.bound c.in_ok-bind_last.ensures c.event_of.new.table.known c.in_ok-event.field-0 c.in_ok-event.ensures.event c.in-Some.event c.in-Some.is full in
    ap (λ (n : ℕ). Some n) c.from.ensures ∙ sym (ap (λ (d : Deriving). d.limit) all)

pub returns-then-len-clause-events : goal.returns-then-len-clause-events
returns-then-len-clause-events c =
    let own = c.loop-found.own.items in
    let count = c.len.ensures in
    let test = c.if-len.true in
    let full : (length own == event_limit) ≡ true = grind (arith, nat_tests) in
    let all = full_ends c.args.layout.now.returns.now c.args.layout.now.events.now (map string_bytes c.args.layout.now.texts.now) c.args.layout.now.second.now c.args.matches.now
    c.loop-found.found-index c.found-item.result c.loop-found-test.true c.found-item.is c.loop-found.own.items c.loop-found.carried.table.known c.loop-found.invariant.derived
    c.bind_last.new.bound c.in_ok-bind_last.ensures c.event_of.new.table.known c.in_ok-event.field-0 c.in_ok-event.ensures.event c.in-Some.event c.in-Some.is full in
    sym (ap (λ (d : Deriving). d.events) all)

pub loop-found-preserved : goal.loop-found-preserved
loop-found-preserved c =
    let own = c.loop-found.own.items in
    let count = c.len.ensures in
    let test = c.if-len.false in
    let room : (length own == event_limit) ≡ false = grind (arith, nat_tests) in
    let more = goes_on c.args.layout.now.returns.now c.args.layout.now.events.now (map string_bytes c.args.layout.now.texts.now) c.args.layout.now.second.now c.args.matches.now
    c.loop-found.found-index c.found-item.result c.loop-found-test.true c.found-item.is c.loop-found.own.items c.loop-found.carried.table.known c.loop-found.invariant.derived
    c.bind_last.new.bound c.in_ok-bind_last.ensures c.event_of.new.table.known c.in_ok-event.field-0 c.in_ok-event.ensures.event c.in-Some.event c.in-Some.is room in
    record {
      table = c.in_ok-event.ensures.table;
      none = c.loop-found.invariant.none;
      derived = ap (λ (l : List Event). going l c.event_of.new.table.known) c.in_ok-push.ensures.items ∙ more;
    }
