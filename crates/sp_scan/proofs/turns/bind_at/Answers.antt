use Rattle.std.proofs.Common.{subst}
use Rattle.sp_scan.specs.inside.Ahead.{IsReady}
use Rattle.sp_scan.proofs.SplitLists.{first_of_rest}
use Rattle.sp_scan.proofs.TurnsTaken.{any_grown}
use Rattle.sp_scan.proofs.turns.bind_at.Goals as goal

pub bind-requires-clause-ready : goal.bind-requires-clause-ready
bind-requires-clause-ready c =
    subst (IsReady c.args.offer.now.plan.now c.args.offer.now.number) c.index-runs-at.is (first_of_rest (IsReady c.args.offer.now.plan.now c.args.offer.now.number) c.args.runs.now c.args.at c.index-runs-at.result c.requires.left.within c.requires.left.ready c.index-runs-at.is)

pub returns-clause-grown : goal.returns-clause-grown
returns-clause-grown c = any_grown c.bind.result c.args.offer.now c.args.runs.now c.args.at c.args.name c.index-runs-at.result c.bind.new.self c.bind.ensures.pairs c.bind.ensures.ready
