use Rattle.std.proofs.Common.{◌≡◌, ◌++◌, drop}
use Rattle.sp_returns.specs.Scopes.{named_from}
use Rattle.sp_returns.proofs.scope.placed_names.Given as goal

abbrev pub invariant-loop-number : goal.invariant-loop-number
invariant-loop-number l = l.made.items ++ named_from l.elements l.number (drop l.number l.idents) ≡ named_from l.elements 0 l.idents
