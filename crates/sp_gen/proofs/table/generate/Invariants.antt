use Rattle.std.proofs.Common.{◌≡◌, string_bytes}
use Rattle.sp_gen.specs.Generated.{drawn, generated}
use Rattle.sp_gen.proofs.table.generate.Given as goal

abbrev pub invariant-loop-before : goal.invariant-loop-before
invariant-loop-before l = (string_bytes l.out ≡ generated l.before l.seed) × (l.drawn ≡ drawn l.seed l.before)
