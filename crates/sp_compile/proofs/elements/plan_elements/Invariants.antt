use Rattle.std.proofs.Common.{◌≡◌, ◌+◌, ◌++◌, length, drop}
use Rattle.sp_compile.specs.Scopes.{placed_names}
use Rattle.sp_compile.specs.Stands.{plan_elements}
use Rattle.sp_compile.proofs.elements.plan_elements.Given as goal

abbrev pub invariant-loop-element : goal.invariant-loop-element
invariant-loop-element l = record {
  planned : l.planned.items ++ plan_elements l.first (drop l.element-index l.elements) ≡ plan_elements 0 l.elements;
  names : l.first + length (placed_names 0 (drop l.element-index l.elements)) ≡ length (placed_names 0 l.elements);
}
