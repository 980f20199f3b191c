use Rattle.std.proofs.Common.{map, string_bytes}
use Rattle.sp_graph.proofs.Fitting.{never_back}
use Rattle.sp_graph.proofs.Walking.{all_are_good}
use Rattle.sp_graph.proofs.outcome.derive.Goals as goal

pub returns-in-Some-clause-fit : goal.returns-in-Some-clause-fit
returns-in-Some-clause-fit c = (all_are_good c.args.returns.now c.args.events.now (map string_bytes c.args.texts.now) c.args.second.now c.args.matches.now c.take_matches-passed.new.own.items c.requires.count c.in_ok-limit.ensures.events).fit

pub returns-in-Some-clause-count : goal.returns-in-Some-clause-count
returns-in-Some-clause-count c = (all_are_good c.args.returns.now c.args.events.now (map string_bytes c.args.texts.now) c.args.second.now c.args.matches.now c.take_matches-passed.new.own.items c.requires.count c.in_ok-limit.ensures.events).few

pub returns-in-Some-clause-times : goal.returns-in-Some-clause-times
returns-in-Some-clause-times c = (all_are_good c.args.returns.now c.args.events.now (map string_bytes c.args.texts.now) c.args.second.now c.args.matches.now c.take_matches-passed.new.own.items c.requires.count c.in_ok-limit.ensures.events).times

pub returns-in-Some-clause-order : goal.returns-in-Some-clause-order
returns-in-Some-clause-order c =
    let good = all_are_good c.args.returns.now c.args.events.now (map string_bytes c.args.texts.now) c.args.second.now c.args.matches.now c.take_matches-passed.new.own.items c.requires.count c.in_ok-limit.ensures.events in
    never_back c.take_matches-passed.new.own.items good.times

pub returns-in-None-clause-fit : goal.returns-in-None-clause-fit
returns-in-None-clause-fit c = (all_are_good c.args.returns.now c.args.events.now (map string_bytes c.args.texts.now) c.args.second.now c.args.matches.now c.take_matches-passed.new.own.items c.requires.count c.in_ok-limit.ensures.events).fit

pub returns-in-None-clause-count : goal.returns-in-None-clause-count
returns-in-None-clause-count c = (all_are_good c.args.returns.now c.args.events.now (map string_bytes c.args.texts.now) c.args.second.now c.args.matches.now c.take_matches-passed.new.own.items c.requires.count c.in_ok-limit.ensures.events).few

pub returns-in-None-clause-times : goal.returns-in-None-clause-times
returns-in-None-clause-times c = (all_are_good c.args.returns.now c.args.events.now (map string_bytes c.args.texts.now) c.args.second.now c.args.matches.now c.take_matches-passed.new.own.items c.requires.count c.in_ok-limit.ensures.events).times

pub returns-in-None-clause-order : goal.returns-in-None-clause-order
returns-in-None-clause-order c =
    let good = all_are_good c.args.returns.now c.args.events.now (map string_bytes c.args.texts.now) c.args.second.now c.args.matches.now c.take_matches-passed.new.own.items c.requires.count c.in_ok-limit.ensures.events in
    never_back c.take_matches-passed.new.own.items good.times
