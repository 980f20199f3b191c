use Rattle.std.proofs.Common.{◌≡◌, ◌∷◌, All, map, take}
use Rattle.sp_chance.specs.Shares.{share_of}
use Rattle.sp_pick.specs.Picking.{best, turned, IsTaken}
use Rattle.sp_pick.proofs.labelling.next_label.Given as goal

abbrev pub invariant-loop-run : goal.invariant-loop-run
invariant-loop-run g l =
    (l.label ≡ best (share_of l.chances l.parent) l.groups)
    × All (IsTaken l.tree.entries l.parent) (best (share_of l.chances l.parent) l.groups ∷ map (turned (share_of l.chances l.parent) l.groups) (take l.run-index l.groups))
