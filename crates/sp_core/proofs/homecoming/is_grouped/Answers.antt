use Rattle.std.proofs.Common.{◌∙◌}
use Rattle.sp_core.proofs.GroupsHeld.{group_is_shown}
use Rattle.sp_core.proofs.homecoming.is_grouped.Goals as goal

pub returns : goal.returns
returns c = c.has_group.ensures ∙ group_is_shown c.args.matcher.now c.open_runs.result.now c.args.number c.open_runs.ensures
