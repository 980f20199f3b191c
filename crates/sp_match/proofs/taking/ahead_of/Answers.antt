use Rattle.std.proofs.Common.{not, sym, subst, Option, Some}
use Rattle.std.specs.Prelude.{IfSome}
use Rattle.sp_plan.specs.Runs.{is_filled}
use Rattle.sp_match.specs.declared.run.Ahead.{Ahead}
use Rattle.sp_match.specs.inside.Kept.{kept, pairs}
use Rattle.sp_match.specs.inside.Good.{IsNamed}
use Rattle.sp_match.specs.inside.Taking.{IsAhead}
use Rattle.sp_match.proofs.AheadIsTaken.{found_keeps}
use Rattle.sp_match.proofs.ElementsAreNamed.{elements_named}
use Rattle.sp_match.proofs.taking.ahead_of.Goals as goal

pub returns-in-Some : goal.returns-in-Some
returns-in-Some c =
    let q = c.args.plan.now in
    let r = pairs (kept c.args.run.now) in
    let kept_ahead : IfSome (Some c.in-Some.ahead) (λ ahead. IsAhead q r ahead) = subst (λ (o : Option Ahead). IfSome o (λ ahead. IsAhead q r ahead)) c.in-Some.is c.requires.good.ahead_is in
    record {
      ahead = kept_ahead;
      element = subst (λ o. IfSome o IsNamed) (sym kept_ahead.0) (found_keeps IsNamed (λ element. not (is_filled r element)) q.elements (elements_named q c.requires.compiled));
    }
