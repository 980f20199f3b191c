-- A fault at its place.
use Rattle.std.specs.Prelude.{ℕ}
use Rattle.sp_lex.specs.declared.fault.Fault.{Fault}
use Rattle.sp_lex.specs.declared.fault.Fault.TheVariants as f
use Rattle.sp_lex.specs.declared.token.LexFault.{LexFault}
use Rattle.sp_lex.specs.declared.token.LexFault.TheVariants as fault

-- the fault of a text where this stands at a place of it
abbrev pub placed : Fault → ℕ → LexFault
placed f.BadCharacter at = fault.BadCharacter at
placed f.OpenText at = fault.OpenText at
placed f.LongNumber at = fault.LongNumber at
placed f.Memory at = fault.Memory
