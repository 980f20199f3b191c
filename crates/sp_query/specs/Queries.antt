-- Which queries a text has.
use Rattle.std.specs.Prelude.{ℕ, List}
use Rattle.sp_lex.specs.declared.token.Token.{Token}
use Rattle.sp_lex.specs.Spelling.{Tokens}
use Rattle.sp_query.specs.declared.query.Query.{Query}
use Rattle.sp_query.specs.Grammar.{Derives}

-- The text's tokens are this query, with no more than 64 levels of nesting open anywhere.
pub record IsQuery (text : List ℕ) (query : Query) : Type 0 where
  pub tokens : List Token
  pub of_text : Tokens 0 text tokens
  pub derives : Derives 64 tokens query
