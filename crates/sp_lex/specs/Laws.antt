-- What is true of every text.
use Rattle.std.specs.Prelude.{◌≡◌, ◌≢◌, ℕ, List}
use Rattle.sp_lex.specs.declared.token.LexFault.{LexFault}
use Rattle.sp_lex.specs.declared.token.LexFault.TheVariants as f
use Rattle.sp_lex.specs.declared.token.Token.{Token}
use Rattle.sp_lex.specs.Spelling.{Refuses, Tokens}

-- A text has at most one list of tokens, at most one fault but for want of memory, and not both.
pub record TokensOrOneFault : Type 0 where
  pub tokens : (text : List ℕ) (one other : List Token) → Tokens 0 text one → Tokens 0 text other → one ≡ other
  pub fault : (text : List ℕ) (one other : LexFault) → one ≢ f.Memory → other ≢ f.Memory → Refuses text one → Refuses text other → one ≡ other
  pub apart : (text : List ℕ) (tokens : List Token) (fault : LexFault) → fault ≢ f.Memory → Tokens 0 text tokens → Refuses text fault → ⊥
