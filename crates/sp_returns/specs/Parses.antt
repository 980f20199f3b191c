-- What is answered of a text: its items, or the first place up to which it begins none.
use Rattle.std.specs.Prelude.{◌≡◌, ◌≢◌, ℕ, List, [], ◌∷◌, ◌++◌, length}
use Rattle.sp_lex.specs.declared.token.Token.{Token}
use Rattle.sp_lex.specs.declared.token.LexFault.TheVariants as l
use Rattle.sp_lex.specs.Spelling.{Tokens}
use Rattle.sp_lex.specs.Spelling as s
use Rattle.sp_parse.specs.declared.stop.Stop.{Stop}
use Rattle.sp_parse.specs.declared.stop.Stop.TheVariants as stop
use Rattle.sp_parse.specs.declared.fault.ParseFault.{ParseFault}
use Rattle.sp_parse.specs.declared.fault.ParseFault.TheVariants as f
use Rattle.sp_parse.specs.Parses.{place}
use Rattle.sp_returns.specs.declared.item.Return.{Return}
use Rattle.sp_returns.specs.Grammar.{DerivesReturns}

-- ---- tokens

-- Some tokens behind these make items of them.
abbrev pub BeginsReturns : ℕ → List Token → Type 0
BeginsReturns levels tokens = (more : List Token) × (returns : List Return) × DerivesReturns levels (tokens ++ more) returns

-- With the next token these begin no items, or none comes and they are none.
abbrev pub NotWith : ℕ → List Token → List Token → Type 0
NotWith levels front [] = (returns : List Return) → DerivesReturns levels front returns → ⊥
NotWith levels front (t ∷ rest) = BeginsReturns levels (front ++ t ∷ []) → ⊥

-- With the next token these begin items of some number of levels.
abbrev pub NeedsMore : List Token → List Token → Type 0
NeedsMore front [] = ⊥
NeedsMore front (t ∷ rest) = (levels : ℕ) × BeginsReturns levels (front ++ t ∷ [])

-- Up to the rest the tokens begin items, and with its first token none, however deep their nesting.
pub record IsUnexpected (tokens rest : List Token) : Type 0 where
  pub front : List Token
  pub cut : tokens ≡ front ++ rest
  pub begins : BeginsReturns 64 front
  pub none : (levels : ℕ) → NotWith levels front rest

-- Up to the rest the tokens begin items, and with its first token some, but none of at most 64 levels.
pub record IsTooDeep (tokens rest : List Token) : Type 0 where
  pub front : List Token
  pub cut : tokens ≡ front ++ rest
  pub begins : BeginsReturns 64 front
  pub none : NotWith 64 front rest
  pub more : NeedsMore front rest

-- why tokens are no items, by how many of them are left where they stop being some
abbrev pub Halts : List Token → Stop → Type 0
Halts tokens stop.Memory = Unit {0}
Halts tokens (stop.Unexpected count) = (rest : List Token) × (length rest ≡ count) × IsUnexpected tokens rest
Halts tokens (stop.TooDeep count) = (rest : List Token) × (length rest ≡ count) × IsTooDeep tokens rest

-- ---- texts

-- What a fault says of a text.
abbrev pub Refuses : List ℕ → ParseFault → Type 0
Refuses text f.Memory = Unit {0}
Refuses text (f.Lex fault) = s.Refuses text fault × (fault ≢ l.Memory)
Refuses text (f.Unexpected at) = (tokens rest : List Token) × Tokens 0 text tokens × IsUnexpected tokens rest × (at ≡ place text rest)
Refuses text (f.TooDeep at) = (tokens rest : List Token) × Tokens 0 text tokens × IsTooDeep tokens rest × (at ≡ place text rest)
