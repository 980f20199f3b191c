use Rattle.std.proofs.Common.{◌≡◌, take}
use Rattle.sp_chance.specs.Shares.{share_of}
use Rattle.sp_pick.specs.Picking.{under}
use Rattle.sp_pick.proofs.surviving.share_under.Given as goal

abbrev pub invariant-loop-run : goal.invariant-loop-run
invariant-loop-run l = l.share ≡ under (share_of l.chances l.parent) (take l.run-index l.groups) l.label l.initial.share
