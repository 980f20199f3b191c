use Rattle.std.proofs.Common.{◌≡◌, take}
use Rattle.std.specs.List.{flat_map}
use Rattle.sp_plan.specs.Runs.{binds}
use Rattle.sp_emit.proofs.bindings.bound_names.Given as goal

abbrev pub invariant-loop-element : goal.invariant-loop-element
invariant-loop-element l = l.names.items ≡ flat_map binds (take l.element-index l.element-items)
