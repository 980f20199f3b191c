use Rattle.std.proofs.Common.{map, ap, ◌∙◌, arith}
use Rattle.std.proofs.lemmas.List.{take_all}
use Rattle.sp_group.specs.Seen.{seen_group}
use Rattle.sp_core.specs.Printing.{groups_in}
use Rattle.sp_core.proofs.Printed.{groups_shown}
use Rattle.sp_core.proofs.state.open_groups.Goals as goal

pub returns : goal.returns
returns c =
    let runs = c.open_runs-run-items.result.now in
    ap (map seen_group) c.of.ensures ∙ c.loop-run.invariant ∙ ap groups_in (take_all c.loop-run.run-index runs (omega arith))
    ∙ groups_shown c.args.matcher.now runs c.open_runs-run-items.ensures
