-- The grammar of what matches return; each sum counts its own levels of nesting.
use Rattle.std.specs.Prelude.{ℕ, List}
use Rattle.sp_lex.specs.declared.token.Token.{Token}
use Rattle.sp_lex.specs.Spelling.{Tokens}
use Rattle.sp_query.specs.declared.mark.Mark.TheVariants as m
use Rattle.sp_query.specs.declared.query.Ident.{Ident}
use Rattle.sp_query.specs.declared.tree.Tree.{Tree}
use Rattle.sp_query.specs.Phrase.{Both, Built}
use Rattle.sp_query.specs.Grammar.{After, ListOf, Name, Sum}
use Rattle.sp_returns.specs.declared.item.Return.{Return}

abbrev pub item : List Token → Tree × Ident → Return
item tokens p = record { tree = p.0; name = p.1 }

-- sum AS name
abbrev pub Item : ℕ → List Token → Return → Type 0
Item room = Built item (Both (Sum room) (After m.As Name))

-- sum AS name { "," sum AS name }
abbrev pub DerivesReturns : ℕ → List Token → List Return → Type 0
DerivesReturns room = ListOf (Item room)

-- The text's tokens are these items, with no more than 64 levels of nesting open in any of their sums.
pub record IsReturnList (text : List ℕ) (returns : List Return) : Type 0 where
  pub tokens : List Token
  pub of_text : Tokens 0 text tokens
  pub derives : DerivesReturns 64 tokens returns
