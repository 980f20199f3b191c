use Rattle.std.proofs.Common.{◌≡◌, take}
use Rattle.sp_returns.specs.Scopes.{idents_of}
use Rattle.sp_returns.proofs.scope.idents.Given as goal

abbrev pub invariant-loop-name : goal.invariant-loop-name
invariant-loop-name l = l.made.items ≡ idents_of (take l.name-index l.names)
