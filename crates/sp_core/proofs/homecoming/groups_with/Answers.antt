use Rattle.std.proofs.Common.{Bool, ◌||◌, ap, ◌∙◌}
use Rattle.sp_base.specs.Numbers.{is_among}
use Rattle.sp_core.proofs.GroupsHeld.{group_is_shown, numbers_are_shown}
use Rattle.sp_core.proofs.homecoming.groups_with.Goals as goal

pub add_open_groups-requires : goal.add_open_groups-requires
add_open_groups-requires c = numbers_are_shown c.args.after.now c.open_runs.result.now c.open_runs.ensures c.requires.numbered

pub returns : goal.returns
returns c = λ r.
    let shows = group_is_shown c.args.after.now c.open_runs.result.now r c.open_runs.ensures in
    c.in_ok-add_groups.ensures r
    ∙ ap (λ (b : Bool). b || is_among c.args.completed.now r) (c.in_ok-add_open_groups.ensures r ∙ ap (λ (b : Bool). is_among c.args.groups r || b) shows)
