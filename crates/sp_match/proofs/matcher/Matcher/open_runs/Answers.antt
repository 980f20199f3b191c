use Rattle.std.proofs.Common.{map, ap, ◌∙◌}
use Rattle.sp_match.specs.public.Matching.{Matching, shown}
use Rattle.sp_match.specs.public.Seen.{seen_run}
use Rattle.sp_match.proofs.MatcherAfterEvent.{all_shown}
use Rattle.std.specs.Arc.{arc_value}
use Rattle.sp_match.proofs.matcher.Matcher.open_runs.Goals as goal

pub returns : goal.returns
returns c =
    ap (map seen_run) c.deref.ensures.value ∙ all_shown (arc_value c.self.inside.plan) c.self.inside.runs.items c.self.invariant.0.good
    ∙ ap (λ (m : Matching). map (shown m.plan) m.open_runs) c.self.view_is
