-- The text of the drill's query is a query: its tokens, and the clauses that they are.
use Rattle.std.proofs.Common.{◌≡◌, ℕ, List, [], ◌∷◌, ◌++◌, take, drop, Some, None, refl, subst, codes}
use Rattle.sp_lex.specs.declared.token.Word.TheVariants as w
use Rattle.sp_lex.specs.declared.token.Token.{Token}
use Rattle.sp_lex.specs.declared.token.Kernel.TheVariants as k
use Rattle.sp_lex.specs.Spelling.{Tokens}
use Rattle.sp_plan.specs.declared.plan.Compare.TheVariants as c
use Rattle.sp_query.specs.declared.mark.Mark.TheVariants as m
use Rattle.sp_query.specs.declared.tree.Node.TheVariants as n
use Rattle.sp_query.specs.declared.query.Query.{Query}
use Rattle.sp_query.specs.declared.query.QueryConsume.TheVariants as u
use Rattle.sp_query.specs.Phrase.{One, Optional}
use Rattle.sp_query.specs.Grammar.{kernel, name, mark, Alone, ListOf, MoreOf, Name, Columns, Column, Timed, Elements, Element, Dotted, Sum, Pred, Definitions, Definition, Within, Opening, Policy, Consume, Derives}
use Rattle.sp_query.specs.Queries.{IsQuery}
use Rattle.sp_drill.specs.Query.{drill_query}
use Rattle.sp_drill.proofs.Pieces.{Piece, word, name as a_name, whole, literal, sign, text_of, tokens_at, tokens_of}
use Rattle.sp_drill.proofs.Phrases.{Gives, one, both, one_way, other_way, built, no_more, more, repeat, sum, pred}

-- ---- pieces

-- a piece behind a blank, and one behind none
abbrev pub apart : Piece → List ℕ × Piece
apart piece = (codes " ", piece)

abbrev pub tight : Piece → List ℕ × Piece
tight piece = ([], piece)

abbrev pub opens : Piece
opens = sign k.LeftRound 40 refl

abbrev pub closes : List ℕ × Piece
closes = tight (sign k.RightRound 41 refl)

abbrev pub comma : List ℕ × Piece
comma = tight (sign k.Comma 44 refl)

abbrev pub columns_pieces : List (List ℕ × Piece)
columns_pieces =
    tight (word w.Event) ∷ apart opens ∷ tight (a_name (codes "at")) ∷ apart (word w.Int) ∷ comma ∷ apart (a_name (codes "sym")) ∷ apart (word w.Text) ∷ comma
    ∷ apart (a_name (codes "price")) ∷ apart (word w.Dec) ∷ apart (whole (codes "2")) ∷ closes ∷ []

abbrev pub pattern_pieces : List (List ℕ × Piece)
pattern_pieces =
    apart (word w.Time) ∷ apart (a_name (codes "at")) ∷ apart (word w.Pattern) ∷ apart opens ∷ tight (a_name (codes "A")) ∷ apart (a_name (codes "B")) ∷ tight (sign k.Plus 43 refl)
    ∷ apart (a_name (codes "C")) ∷ closes ∷ []

-- the price, held against that of the event of A
abbrev pub price_pieces : Piece → List (List ℕ × Piece)
price_pieces by = apart (a_name (codes "price")) ∷ apart by ∷ apart (a_name (codes "A")) ∷ tight (sign k.Dot 46 refl) ∷ tight (a_name (codes "price")) ∷ []

abbrev pub defines_pieces : List (List ℕ × Piece)
defines_pieces =
    apart (word w.Define) ∷ apart (a_name (codes "A")) ∷ apart (word w.As) ∷ apart (a_name (codes "sym")) ∷ apart (sign k.Equal 61 refl) ∷ apart (literal (codes "AA"))
    ∷ comma ∷ apart (a_name (codes "B")) ∷ apart (word w.As) ∷ price_pieces (sign k.Less 60 refl)
    ++ comma ∷ apart (a_name (codes "C")) ∷ apart (word w.As) ∷ price_pieces (sign k.Greater 62 refl)

abbrev pub window_pieces : List (List ℕ × Piece)
window_pieces =
    apart (word w.Within) ∷ apart (whole (codes "40")) ∷ apart (word w.Events) ∷ apart (word w.From) ∷ apart (word w.Every) ∷ apart (whole (codes "10")) ∷ apart (word w.Events)
    ∷ apart (word w.Select) ∷ apart (word w.First) ∷ apart (word w.Consume) ∷ apart (word w.All) ∷ []

abbrev pub pieces : List (List ℕ × Piece)
pieces = columns_pieces ++ (pattern_pieces ++ (defines_pieces ++ window_pieces))

abbrev pub tokens : List Token
tokens = tokens_at 0 pieces

is_text : text_of pieces ≡ drill_query
unfolding drill_query
is_text = refl

has_tokens : Tokens 0 drill_query tokens
has_tokens = subst (λ text. Tokens 0 text tokens) is_text (tokens_of 0 pieces refl)

-- ---- clauses, each of so many tokens

-- the tokens from this one on
abbrev pub from : ℕ → List Token
from n = drop n tokens

abbrev pub name_of : {t : Token} (text : List ℕ) → kernel name t ≡ Some text → Gives Name (t ∷ [])
name_of text is = built (one text is)

abbrev pub at_column : Gives Column (take 2 (from 2))
at_column = built (both 1 (name_of (codes "at") refl) (one_way (built (one w.Int refl))))

abbrev pub symbol_column : Gives Column (take 2 (from 5))
symbol_column = built (both 1 (name_of (codes "sym") refl) (one_way (built (one w.Text refl))))

abbrev pub price_column : Gives Column (take 3 (from 8))
price_column = built (both 1 (name_of (codes "price") refl) (other_way (built (built (both 1 (one tt refl) (one 2 refl))))))

abbrev pub three_columns : Gives (ListOf Column) (take 9 (from 2))
three_columns = repeat 2 (built at_column) (more 3 (both 1 (one tt refl) symbol_column) (more 4 (both 1 (one tt refl) price_column) no_more))

abbrev pub columns : Gives Columns (take 12 (from 0))
columns = built (both 1 (one tt refl) (built (both 1 (one tt refl) (both 9 three_columns (one tt refl)))))

abbrev pub timed : Gives Timed (take 2 (from 12))
timed = built (both 1 (one tt refl) (name_of (codes "at") refl))

abbrev pub one_event : {t : Token} (text : List ℕ) → kernel name t ≡ Some text → Gives Element (t ∷ [])
one_event text is = one_way (built (both 1 (name_of text is) (record { value = None; phrase = refl })))

abbrev pub more_events : Gives Element (take 2 (from 17))
more_events =
    let plus : Gives (One (kernel (mark m.Plus))) (take 1 (from 18)) = one tt refl in
    one_way (built (both 1 (name_of (codes "B") refl) (record { value = Some tt; phrase = plus.phrase })))

abbrev pub three_elements : Gives (MoreOf (Alone Element) Element) (take 4 (from 16))
three_elements = repeat 1 (built (one_event (codes "A") refl)) (more 2 more_events (more 1 (one_event (codes "C") refl) no_more))

abbrev pub elements : Gives Elements (take 7 (from 14))
elements = built (both 1 (one tt refl) (built (both 1 (one tt refl) (both 4 three_elements (one tt refl)))))

-- a column of the event at hand
abbrev pub own : {t : Token} (text : List ℕ) → kernel name t ≡ Some text → Gives (Sum 64) (t ∷ [])
own text is = sum (other_way (built (both 1 (one text is) (record { value = None; phrase = refl }))))

abbrev pub same_symbol : Gives (Pred 64) (take 3 (from 24))
same_symbol = pred (built (both 1 (own (codes "sym") refl) (both 1 (one (n.Test c.Equal) refl) (sum (one_way (built (one (n.Literal (codes "AA")) refl)))))))

-- a column of the event of A
abbrev pub earlier : {a : Token} {rest : List Token} → kernel name a ≡ Some (codes "A") → Gives Dotted rest → Gives (Sum 64) (a ∷ rest)
earlier is dotted = sum (other_way (built (both 1 (one (codes "A") is) (record { value = Some dotted.value; phrase = dotted.phrase }))))

abbrev pub lower_price : Gives (Pred 64) (take 5 (from 30))
lower_price = pred (built (both 1 (own (codes "price") refl) (both 1 (one (n.Test c.Less) refl) (earlier refl (built (both 1 (one tt refl) (one (codes "price") refl)))))))

abbrev pub higher_price : Gives (Pred 64) (take 5 (from 38))
higher_price = pred (built (both 1 (own (codes "price") refl) (both 1 (one (n.Test c.Greater) refl) (earlier refl (built (both 1 (one tt refl) (one (codes "price") refl)))))))

abbrev pub three_definitions : Gives (ListOf (Definition 64)) (take 21 (from 22))
three_definitions =
    repeat 5 (built (both 1 (name_of (codes "A") refl) (built (both 1 (one tt refl) same_symbol))))
    (more 8 (both 1 (one tt refl) (both 1 (name_of (codes "B") refl) (built (both 1 (one tt refl) lower_price))))
    (more 8 (both 1 (one tt refl) (both 1 (name_of (codes "C") refl) (built (both 1 (one tt refl) higher_price)))) no_more))

abbrev pub definitions : Gives (Definitions 64) (take 22 (from 21))
definitions = built (both 1 (one tt refl) three_definitions)

abbrev pub within : Gives Within (take 3 (from 43))
within = built (both 1 (one tt refl) (built (both 1 (one 40 refl) (one w.Events refl))))

abbrev pub opening : Gives (Opening 64) (take 4 (from 46))
opening = built (both 1 (one tt refl) (one_way (built (built (both 1 (one tt refl) (both 1 (one 10 refl) (one w.Events refl)))))))

abbrev pub policy : Gives Policy (take 2 (from 50))
policy = built (both 1 (one tt refl) (one w.First refl))

abbrev pub consume : Gives Consume (take 2 (from 52))
consume = built (both 1 (one tt refl) (one_way (one u.All refl)))

-- ---- the query

-- the clauses one after another; the time and the definitions are there
abbrev pub derived : Gives (Derives 64) tokens
derived =
    let time_there : Gives (Optional Timed) (take 2 (from 12)) = record { value = Some timed.value; phrase = timed.phrase } in
    let definitions_there : Gives (Optional (Definitions 64)) (take 22 (from 21)) = record { value = Some definitions.value; phrase = definitions.phrase } in
    built (both 12 columns (both 2 time_there (both 7 elements (both 22 definitions_there (both 3 within (both 4 opening (both 2 policy consume)))))))

-- the query that the text is
abbrev pub query : Query
query = derived.value

pub is_query : IsQuery drill_query query
is_query = record { tokens = tokens; of_text = has_tokens; derives = derived.phrase }
