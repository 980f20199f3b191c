-- What a parser answers: the query of a text, or the first place up to which the text begins none.
use Rattle.std.specs.Prelude.{◌≡◌, ◌≢◌, ℕ, List, [], ◌∷◌, ◌++◌, length, Result, Ok, Err}
use Rattle.sp_lex.specs.declared.token.Token.{Token}
use Rattle.sp_lex.specs.declared.token.LexFault.TheVariants as l
use Rattle.sp_lex.specs.Spelling.{Tokens}
use Rattle.sp_lex.specs.Spelling as s
use Rattle.sp_query.specs.declared.query.Query.{Query}
use Rattle.sp_query.specs.Grammar.{Derives}
use Rattle.sp_parse.specs.declared.stop.Stop.{Stop}
use Rattle.sp_parse.specs.declared.stop.Stop.TheVariants as stop
use Rattle.sp_parse.specs.declared.fault.ParseFault.{ParseFault}
use Rattle.sp_parse.specs.declared.fault.ParseFault.TheVariants as f

-- ---- tokens

-- Some tokens behind these make a query of them.
abbrev pub BeginsQuery : ℕ → List Token → Type 0
BeginsQuery levels tokens = (more : List Token) × (query : Query) × Derives levels (tokens ++ more) query

-- With the next token these begin no query, or none comes and they are none.
abbrev pub NotWith : ℕ → List Token → List Token → Type 0
NotWith levels front [] = (query : Query) → Derives levels front query → ⊥
NotWith levels front (t ∷ rest) = BeginsQuery levels (front ++ t ∷ []) → ⊥

-- With the next token these begin a query of some number of levels.
abbrev pub NeedsMore : List Token → List Token → Type 0
NeedsMore front [] = ⊥
NeedsMore front (t ∷ rest) = (levels : ℕ) × BeginsQuery levels (front ++ t ∷ [])

-- Up to the rest the tokens begin a query, and with its first token none, however deep its nesting.
pub record IsUnexpected (tokens rest : List Token) : Type 0 where
  pub front : List Token
  pub cut : tokens ≡ front ++ rest
  pub begins : BeginsQuery 64 front
  pub none : (levels : ℕ) → NotWith levels front rest

-- Up to the rest the tokens begin a query, and with its first token one, but none of at most 64 levels.
pub record IsTooDeep (tokens rest : List Token) : Type 0 where
  pub front : List Token
  pub cut : tokens ≡ front ++ rest
  pub begins : BeginsQuery 64 front
  pub none : NotWith 64 front rest
  pub more : NeedsMore front rest

-- why tokens are no query, by how many of them are left where they stop being one
abbrev pub Halts : List Token → Stop → Type 0
Halts tokens stop.Memory = Unit {0}
Halts tokens (stop.Unexpected count) = (rest : List Token) × (length rest ≡ count) × IsUnexpected tokens rest
Halts tokens (stop.TooDeep count) = (rest : List Token) × (length rest ≡ count) × IsTooDeep tokens rest

-- The query is what was answered, unless memory ran out.
abbrev pub IsFrom : Query → Result Query Stop → Type 0
IsFrom query (Ok answer) = query ≡ answer
IsFrom query (Err e) = e ≡ stop.Memory

-- ---- texts

-- where these tokens begin in a text, at its end where there are none
abbrev pub place : List ℕ → List Token → ℕ
place text [] = length text
place text (t ∷ rest) = t.span.from

-- What a fault says of a text.
abbrev pub Refuses : List ℕ → ParseFault → Type 0
Refuses text f.Memory = Unit {0}
Refuses text (f.Lex fault) = s.Refuses text fault × (fault ≢ l.Memory)
Refuses text (f.Unexpected at) = (tokens rest : List Token) × Tokens 0 text tokens × IsUnexpected tokens rest × (at ≡ place text rest)
Refuses text (f.TooDeep at) = (tokens rest : List Token) × Tokens 0 text tokens × IsTooDeep tokens rest × (at ≡ place text rest)

-- The query is what was answered, unless memory ran out.
abbrev pub IsAll : Query → Result Query ParseFault → Type 0
IsAll query (Ok answer) = query ≡ answer
IsAll query (Err e) = e ≡ f.Memory
