use Rattle.std.proofs.Common.{ℕ, List, ap, ◌∙◌}
use Rattle.sp_base.specs.Numbers.{is_among}
use Rattle.sp_pick.proofs.Searched.{found_run}
use Rattle.sp_pick.proofs.surviving.has_run.Goals as goal

pub returns : goal.returns
returns c =
    c.is_ok.ensures.value ∙ found_run c.runs.result.now c.args.run c.binary_search.result c.runs.ensures.label.rising c.binary_search.ensures.position
    ∙ ap (λ (l : List ℕ). is_among l c.args.run) c.runs.ensures.list
