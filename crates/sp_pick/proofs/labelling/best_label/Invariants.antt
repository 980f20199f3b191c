use Rattle.std.proofs.Common.{◌≡◌, take, filter}
use Rattle.sp_chance.specs.Shares.{share_of}
use Rattle.sp_pick.specs.Picking.{is_likely}
use Rattle.sp_pick.proofs.labelling.best_label.Given as goal

abbrev pub invariant-loop-run : goal.invariant-loop-run
invariant-loop-run l = l.likely.items ≡ filter (is_likely (share_of l.chances l.parent)) (take l.run-index l.groups)
