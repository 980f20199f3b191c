use Rattle.sp_match.specs.inside.Kept.{kept}
use Rattle.std.proofs.Common.{Some}
use Rattle.sp_match.proofs.taking.look_on.Goals as goal

pub returns : goal.returns
returns c = λ i. record (kept c.args.run.now) { ahead = Some (record { element = c.known_ahead-ahead.ensures.0 i; again = c.known_ahead-ahead.ensures.1 i; guards = c.known_ahead-ahead.ensures.2 i }) }
