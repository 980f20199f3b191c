use Rattle.sp_forest.proofs.CanDrive.{all_drivable, all_numbered}
use Rattle.sp_forest.proofs.law.parts_can_be_driven.Goals as goal

pub returns : goal.returns
returns c q stop parts compiled are =
    let few = c.windows_are_few.ensures in
    let first = c.closed_come_first.ensures in
    let lie = c.parts_lie_within.ensures in
    let fall = c.parts_fall_apart.ensures in
    (all_drivable few first lie fall q compiled.windowed stop parts are, all_numbered few first lie fall q compiled.windowed stop parts are)
