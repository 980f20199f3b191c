use Rattle.std.proofs.Common.{map, arith}
use Rattle.std.proofs.lemmas.Grind.{common_steps}
use Rattle.sp_match.specs.inside.Kept.{kept, pairs}
use Rattle.sp_match.specs.inside.Effects.{run_at}
use Rattle.sp_match.specs.public.Seen.{seen}
use Rattle.sp_match.proofs.QuietTurns.{turn_passed}
use Rattle.sp_match.proofs.turns.turn.Goals as goal

pub returns-then-is_passed_over-clause-turned : goal.returns-then-is_passed_over-clause-turned
returns-then-is_passed_over-clause-turned c =
    let o = c.args.offer.now in
    let ks = map kept c.args.runs.now in
    let r = pairs (run_at ks c.args.at) in
    turn_passed o.plan.now c.args.at (o.number, o.event.now) ks (map seen c.args.list.now.items) c.args.so_far
    (c.is_passed_over.ensures.none c.if-is_passed_over.true r c.requires.told) (c.is_passed_over.ensures.stays c.if-is_passed_over.true r c.requires.told)

pub returns-then-matches-clause-turned : goal.returns-then-matches-clause-turned
returns-then-matches-clause-turned c = grind (arith, common_steps)

pub returns-clause-turned : goal.returns-clause-turned
returns-clause-turned c = grind (arith, common_steps)
