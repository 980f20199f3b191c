use Rattle.std.proofs.Common.{◌∙◌}
use Rattle.std.specs.Arc.{arc_value}
use Rattle.sp_parts.specs.Seen.{seen}
use Rattle.sp_forest.proofs.OneCore.{found_moved}
use Rattle.sp_forest.proofs.alone.drive_part.Goals as goal

pub returns-clause-found : goal.returns-clause-found
returns-clause-found g c =
    c.in_ok-found.ensures.found
    ∙ found_moved (arc_value c.args.plan.now) (seen c.args.part) c.stop_of-stop.result c.in_ok-core.field-0.core c.in_ok-core.field-0.why c.emitted.result.now c.in_ok-core.ensures.gone c.stop_of-stop.ensures
    c.in_ok-found.ensures.through c.emitted.ensures.sequential
