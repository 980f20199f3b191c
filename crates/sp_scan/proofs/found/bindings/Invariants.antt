use Rattle.std.proofs.Common.{◌≡◌, ◌-◌, ◌++◌, take}
use Rattle.std.specs.Prelude.{map}
use Rattle.std.specs.List.{flat_map, range_with_len}
use Rattle.sp_plan.specs.Runs.{binds, numbers_under}
use Rattle.sp_scan.proofs.found.bindings.Given as goal

abbrev pub invariant-loop-element : goal.invariant-loop-element
invariant-loop-element l = l.list.items ≡ map (λ name. (name, numbers_under l.pairs name)) (flat_map binds (take l.element-index l.element-items))

abbrev pub invariant-loop-name : goal.invariant-loop-name
invariant-loop-name l = l.list.items ≡ l.initial.list.items ++ map (λ name. (name, numbers_under l.pairs name)) (range_with_len l.first (l.name - l.first))
