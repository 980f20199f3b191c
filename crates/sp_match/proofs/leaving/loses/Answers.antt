use Rattle.std.proofs.Common.{◌&&◌, sym, ap, ◌∙◌}
use Rattle.sp_base.specs.Numbers.{is_among}
use Rattle.sp_plan.specs.Runs.{holds_one}
use Rattle.sp_match.specs.inside.Kept.{kept, pairs}
use Rattle.sp_match.proofs.PairsOfRuns.{holds_pairs}
use Rattle.sp_match.proofs.leaving.loses.Goals as goal

pub returns-then-stays : goal.returns-then-stays
returns-then-stays c =
    let run = c.args.run.now in
    c.holds_one.ensures ∙ sym (holds_pairs (is_among c.args.numbers.now.list) run.bound.items run.events c.requires.1.same_names)
    ∙ ap (λ b. b && holds_one c.args.numbers.now.list (pairs (kept run))) (sym c.if-stays.true ∙ c.stays.ensures)
