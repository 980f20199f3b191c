use Rattle.std.proofs.Common.{Some, ap, ◌∙◌}
use Rattle.sp_match.specs.public.Matching.{Matching}
use Rattle.sp_core.proofs.Written.{same_written}
use Rattle.sp_core.proofs.leasing.lend_matcher.Goals as goal

pub returns-clause-same : goal.returns-clause-same
returns-clause-same c =
    let held = c.in-Some.held.now in
    same_written c.clear_away.new.tree c.args.version _ (ap (λ (m : Matching). Some (record held { matcher = m })) c.lend.ensures.same ∙ c.in-Some.ensures.value)
    ∙ c.clear_away.ensures
