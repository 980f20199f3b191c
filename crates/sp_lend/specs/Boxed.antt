-- What lies in a box that is not empty.
use mathlib.Core.Bool.{true≢false}
use Rattle.std.specs.Prelude.{Option, Some, None, IsSome}
use Rattle.std.proofs.Common.{sym}

-- what is there
abbrev pub boxed_in : {T : Type 0} → (o : Option T) → IsSome o → T
boxed_in (Some x) there = x
boxed_in None there = absurd (true≢false (sym there))
