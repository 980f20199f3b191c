use Rattle.std.proofs.Common.{◌≡◌, ◌++◌, map, take, drop}
use Rattle.sp_compile.specs.Scopes.{in_element, placed_names}
use Rattle.sp_compile.proofs.elements.pattern_names.Given as goal

abbrev pub invariant-loop-number : goal.invariant-loop-number
invariant-loop-number l = l.names.items ++ placed_names l.number (drop l.number l.elements) ≡ placed_names 0 l.elements

abbrev pub invariant-loop-name : goal.invariant-loop-name
invariant-loop-name l = l.names.items ≡ l.initial.names.items ++ map (in_element l.number l.negated) (take l.name-index l.name-items)
