use Rattle.sp_match.specs.inside.Kept.{kept, pairs}
use Rattle.sp_match.proofs.RunsFollow.{held_alike}
use Rattle.sp_match.proofs.holdings.follow.Goals as goal

pub returns-then-goes_on-clause-held : goal.returns-then-goes_on-clause-held
returns-then-goes_on-clause-held c = λ rs held within alike so.
    let q = c.args.offer.now.plan.now in
    let both = alike c.if-is_old.true (c.goes_on.ensures q rs held c.if-goes_on.true) in
    held_alike c.held_sides_stand_alone.ensures q rs (pairs (kept c.args.run.now)) c.args.at c.args.held.now both.0 both.1 held
