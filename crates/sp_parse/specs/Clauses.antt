-- What is left of a query behind some of its clauses.
use Rattle.std.specs.Prelude.{ℕ, List, Option}
use Rattle.sp_lex.specs.declared.token.Span.{Span}
use Rattle.sp_lex.specs.declared.token.Token.{Token}
use Rattle.sp_lex.specs.declared.token.Word.{Word}
use Rattle.sp_query.specs.declared.tree.Tree.{Tree}
use Rattle.sp_query.specs.declared.query.Ident.{Ident}
use Rattle.sp_query.specs.declared.query.QueryConsume.{QueryConsume}
use Rattle.sp_query.specs.declared.query.QueryElement.{QueryElement}
use Rattle.sp_query.specs.declared.query.QueryOpening.{QueryOpening}
use Rattle.sp_query.specs.Phrase.{Both, Optional}
use Rattle.sp_query.specs.Grammar.{Elements, Definitions, Within, Opening, Policy, Consume}

abbrev pub EndingValue : Type 0
EndingValue = (ℕ × Word × Span) × (QueryOpening × (Word × QueryConsume))

-- from WITHIN on
abbrev pub Ending : ℕ → List Token → EndingValue → Type 0
Ending room = Both Within (Both (Opening room) (Both Policy Consume))

abbrev pub BodyValue : Type 0
BodyValue = List QueryElement × (Option (List (Ident × Tree)) × EndingValue)

-- from PATTERN on
abbrev pub Body : ℕ → List Token → BodyValue → Type 0
Body room = Both Elements (Both (Optional (Definitions room)) (Ending room))
