use Rattle.std.proofs.Common.{◌+◌, ◌-◌}
use Rattle.sp_chance.specs.Shares.{share_of}
use Rattle.sp_splitter.proofs.Bred.{Bred}
use Rattle.sp_splitter.proofs.breeding.breed.Given as goal

abbrev pub invariant-loop-busy : goal.invariant-loop-busy
invariant-loop-busy g l = Bred (share_of l.chances) l.instances l.fn.core l.core l.busy

abbrev pub decreases-loop-busy : goal.decreases-loop-busy
decreases-loop-busy g l = (l.instances + 1) - l.busy
