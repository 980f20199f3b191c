use Rattle.std.proofs.Common.{◌∙◌, rules}
use Rattle.std.proofs.lemmas.Fn.{filter_same}
use Rattle.sp_match.specs.inside.Kept.{stays}
use Rattle.sp_match.proofs.settling.drop_leaving.Goals as goal

pub returns : goal.returns
returns c =
    filter_same _ (λ run. stays run.fate) _ (λ x b f' k. search rules) _ _ c.retain.ensures.filtered
    ∙ c.last_leaving.ensures.staying ∙ c.loop-run.invariant
