-- The printed code of a fault, and its place.
use Rattle.std.specs.Prelude.{ℕ}
use Rattle.sp_lex.specs.declared.token.LexFault.{LexFault}
use Rattle.sp_lex.specs.declared.token.LexFault.TheVariants as l
use Rattle.sp_parse.specs.declared.fault.ParseFault.{ParseFault}
use Rattle.sp_parse.specs.declared.fault.ParseFault.TheVariants as f

-- 1 to 3 in the order of the faults of tokens
abbrev pub token_code : LexFault → ℕ
token_code (l.BadCharacter at) = 1
token_code (l.OpenText at) = 2
token_code (l.LongNumber at) = 3
token_code l.Memory = 0

abbrev pub token_place : LexFault → ℕ
token_place (l.BadCharacter at) = at
token_place (l.OpenText at) = at
token_place (l.LongNumber at) = at
token_place l.Memory = 0

-- those of tokens, 11 and 12; want of memory has none
abbrev pub code_of : ParseFault → ℕ
code_of (f.Lex fault) = token_code fault
code_of (f.Unexpected at) = 11
code_of (f.TooDeep at) = 12
code_of f.Memory = 0

abbrev pub place_of : ParseFault → ℕ
place_of (f.Lex fault) = token_place fault
place_of (f.Unexpected at) = at
place_of (f.TooDeep at) = at
place_of f.Memory = 0
