use Rattle.std.proofs.Common.{◌≡◌, take}
use Rattle.sp_graph.specs.Tables.{last_of_each}
use Rattle.sp_graph.proofs.bind.bind_last.Given as goal

abbrev pub invariant-loop-name : goal.invariant-loop-name
invariant-loop-name l = l.bound ≡ last_of_each l.events (take l.name-index l.name-items)
