use Rattle.std.proofs.Common.{ℕ, take, string_bytes}
use Rattle.sp_query.specs.declared.mark.Mark.TheVariants as m
use Rattle.sp_query.specs.Grammar as g
use Rattle.sp_query.specs.Same.{Pairwise, SameDefinition}
use Rattle.sp_syntax.specs.Printing.{Adds, Prints, Each}
use Rattle.sp_syntax.proofs.definitions.more_definitions.Given as goal

abbrev pub invariant-loop-one : goal.invariant-loop-one
invariant-loop-one l = Adds (string_bytes l.initial.out) (string_bytes l.out) (λ x. (room : ℕ) → Prints (Each (g.After m.Comma (g.Definition room))) (Pairwise SameDefinition) (take l.one-index l.definitions) x)
