use Rattle.std.proofs.Common.{refl, arith}
use Rattle.sp_scan.specs.inside.Offer.{numbered}
use Rattle.sp_scan.proofs.RunsGoOn.{round_done, round_from, round_on, round_ready, round_shorter}
use Rattle.sp_scan.proofs.handling.offer_to_all.Goals as goal

pub loop-at-init : goal.loop-at-init
loop-at-init c = (round_from c.args.offer.now.plan.now (numbered c.args.offer.now) c.args.runs _ c.requires.ready refl refl c.new.ensures.list, c.requires.shared)

pub take_turn-requires-clause-left : goal.take_turn-requires-clause-left
take_turn-requires-clause-left c = record {
  within = omega (arith, c.loop-at-test.true, c.len.ensures, c.loop-at.turns.runs.ok.0);
  ready = round_ready c.args.offer.now.plan.now (numbered c.args.offer.now) c.args.runs c.loop-at.turns c.loop-at.at c.loop-at.invariant.0;
}

pub loop-at-smaller : goal.loop-at-smaller
loop-at-smaller c = round_shorter c.args.offer.now.plan.now (numbered c.args.offer.now) c.args.runs c.loop-at.turns c.take_turn.new.self c.loop-at.at c.in_ok-at.at c.loop-at.invariant.0 (omega (arith, c.loop-at-test.true, c.len.ensures, c.loop-at.turns.runs.ok.0)) c.in_ok-at.ensures.turn

pub loop-at-preserved : goal.loop-at-preserved
loop-at-preserved c = (round_on c.args.offer.now.plan.now (numbered c.args.offer.now) c.args.runs c.loop-at.turns c.take_turn.new.self c.loop-at.at c.in_ok-at.at c.loop-at.invariant.0 (omega (arith, c.loop-at-test.true, c.len.ensures, c.loop-at.turns.runs.ok.0)) c.in_ok-at.ensures.turn, c.take_turn.ensures.shared)

pub returns-clause-shows : goal.returns-clause-shows
returns-clause-shows c = round_done c.args.offer.now.plan.now (numbered c.args.offer.now) c.args.runs c.loop-at.turns c.loop-at.at c.loop-at.invariant.0 (omega (arith, c.loop-at-test.false, c.len.ensures, c.loop-at.turns.runs.ok.0))
