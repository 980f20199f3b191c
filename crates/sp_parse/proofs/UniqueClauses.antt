-- The clauses of a query are unique, and so is the query of a text.
use Rattle.std.proofs.Common.{◌≡◌, ℕ, Bool, true, false, List, [], ◌∷◌, Option, is_some, refl, ◌∙◌, ap, subst}
use Rattle.sp_lex.specs.declared.token.Token.{Token}
use Rattle.sp_lex.specs.declared.token.Span.{Span}
use Rattle.sp_lex.specs.declared.token.Word.{Word}
use Rattle.sp_lex.specs.declared.token.Word.TheVariants as w
use Rattle.sp_lex.specs.declared.token.Kernel.{Kernel}
use Rattle.sp_lex.specs.declared.token.Kernel.TheVariants as k
use Rattle.sp_lex.specs.Spelling.{Tokens}
use Rattle.sp_lex.proofs.Lexing.{split}
use Rattle.sp_query.specs.declared.mark.Mark.TheVariants as m
use Rattle.sp_query.specs.declared.query.Ident.{Ident}
use Rattle.sp_query.specs.declared.query.Query.{Query}
use Rattle.sp_query.specs.declared.tree.Tree.{Tree}
use Rattle.sp_query.specs.declared.query.QueryElement.{QueryElement}
use Rattle.sp_query.specs.declared.query.QueryElement.TheVariants as e
use Rattle.sp_query.specs.declared.query.QueryOpening.{QueryOpening}
use Rattle.sp_query.specs.declared.query.QueryOpening.TheVariants as o
use Rattle.sp_query.specs.declared.query.QueryConsume.{QueryConsume}
use Rattle.sp_query.specs.declared.query.QueryConsume.TheVariants as u
use Rattle.sp_query.specs.Phrase.{One, Both, Either, Built, Optional}
use Rattle.sp_query.specs.Grammar.{span, kernel, mark, name, whole, plain_kind, unit, policy, all_or_none, single, query, After, Between, Alone, ListOf, MoreOf, Name, KindOf, Column, Columns, Timed, Single, Names, Several, Negated, Element, Elements, Pred, Definition, Definitions, Amount, Within, Every, Opening, Policy, Consume, Derives}
use Rattle.sp_query.specs.Queries.{IsQuery}
use Rattle.sp_parse.specs.Follow.{element_head, after_pred, after_definitions}
use Rattle.sp_parse.specs.Reads.{never, reads_as, among}
use Rattle.sp_parse.proofs.Reading as r
use Rattle.sp_parse.proofs.Marks.{sample}
use Rattle.sp_parse.proofs.Atoms as a
use Rattle.sp_parse.proofs.EventClause as v
use Rattle.sp_parse.proofs.EventClause.{after_list, list_out}
use Rattle.sp_parse.proofs.PatternClause as p
use Rattle.sp_parse.proofs.PatternClause.{after_single, after_names, after_row}
use Rattle.sp_parse.proofs.EndClauses as z
use Rattle.sp_parse.proofs.Agree.{Agree, Starts, Clash, one_agrees, both_agree, built_agree, either_agree, optional_agree, agree_within}
use Rattle.sp_parse.proofs.Unique.{flips, clash_both, complete, begun, token_starts, pair_agree, after_agree, between_agree, alone_agree, list_agree, more_agree, pred_agrees}

-- ---- columns and the time

name_agrees : Agree Name Name never
name_agrees = built_agree (λ tokens x. record { text = x; span = span tokens }) (One (kernel name)) (One (kernel name)) never (one_agrees (kernel name))

kind_agrees : Agree KindOf KindOf never
kind_agrees =
    let plain = Built (λ tokens word. (word, 0)) (One (kernel plain_kind)) in
    let decimal = Built (λ tokens digits. (w.Dec, digits)) (After m.Dec (One (kernel whole))) in
    either_agree plain plain decimal decimal never (reads_as (kernel plain_kind)) (reads_as (kernel (mark m.Dec))) (flips (reads_as (kernel (mark m.Dec))) (reads_as (kernel plain_kind)) (λ t. v.dec_no_plain t.kernel))
    (v.plain_begins 0) (v.plain_begins 0) (v.decimal_begins 0) (v.decimal_begins 0)
    (built_agree (λ tokens word. (word, 0)) (One (kernel plain_kind)) (One (kernel plain_kind)) never (one_agrees (kernel plain_kind)))
    (built_agree (λ tokens digits. (w.Dec, digits)) (After m.Dec (One (kernel whole))) (After m.Dec (One (kernel whole))) never (after_agree m.Dec (One (kernel whole)) (One (kernel whole)) never (one_agrees (kernel whole))))

column_agrees : Agree Column Column never
column_agrees = built_agree (λ tokens p. record { name = p.0; kind = p.1.0; digits = p.1.1; span = span tokens }) (Both Name KindOf) (Both Name KindOf) never (pair_agree Name Name KindOf KindOf never name_agrees kind_agrees)

columns_agree : Agree Columns Columns never
columns_agree = after_agree m.Event (Between m.LeftRound (ListOf Column) m.RightRound) (Between m.LeftRound (ListOf Column) m.RightRound) never
    (between_agree m.LeftRound (ListOf Column) (ListOf Column) m.RightRound after_list list_out (list_agree Column Column never (λ t h. refl) column_agrees))

timed_agrees : Agree Timed Timed never
timed_agrees = after_agree m.Time Name Name never name_agrees

-- ---- the pattern

single_agrees : Agree Single Single after_single
single_agrees = agree_within Single Single (among after_single never) after_single p.within
    (built_agree single (Both Name (Optional (One (kernel (mark m.Plus))))) (Both Name (Optional (One (kernel (mark m.Plus))))) (among after_single never)
    (pair_agree Name Name (Optional (One (kernel (mark m.Plus)))) (Optional (One (kernel (mark m.Plus)))) (among after_single never) name_agrees
    (optional_agree (One (kernel (mark m.Plus))) (One (kernel (mark m.Plus))) never after_single (r.one_begins (kernel (mark m.Plus)) 0) (r.one_begins (kernel (mark m.Plus)) 0) (one_agrees (kernel (mark m.Plus))))))

names_agree : Agree Names Names after_names
names_agree = more_agree (Built (λ tokens p. p.0 ∷ p.1 ∷ []) (Both Name Name)) Name never (reads_as (kernel name)) (v.name_begins 0) p.names_apart
    (built_agree (λ tokens p. p.0 ∷ p.1 ∷ []) (Both Name Name) (Both Name Name) never (pair_agree Name Name Name Name never name_agrees name_agrees)) name_agrees

set_agrees : Agree Several Several never
set_agrees = built_agree (λ tokens names. e.Set names) (p.SetOf 0) (p.SetOf 0) never
    (after_agree m.Set (Between m.LeftRound Names m.RightRound) (Between m.LeftRound Names m.RightRound) never (between_agree m.LeftRound Names Names m.RightRound after_names p.names_out names_agree))

negated_agrees : Agree Negated Negated never
negated_agrees = built_agree (λ tokens x. e.Never x (span tokens)) (After m.Bang Name) (After m.Bang Name) never (after_agree m.Bang Name Name never name_agrees)

marked_agrees : Agree (Either Several Negated) (Either Several Negated) never
marked_agrees = either_agree Several Several Negated Negated never (reads_as (kernel (mark m.Set))) (reads_as (kernel (mark m.Bang))) (λ t. p.set_no_bang t.kernel)
    (p.set_begins 0) (p.set_begins 0) (p.negated_begins 0) (p.negated_begins 0) set_agrees negated_agrees

element_agrees : Agree Element Element after_single
element_agrees = either_agree Single Single (Either Several Negated) (Either Several Negated) after_single (reads_as (kernel name)) p.marked_head (flips p.marked_head (reads_as (kernel name)) (λ t. p.marked_no_name t.kernel))
    (p.single_begins 0) (p.single_begins 0) (p.marked_begins 0) (p.marked_begins 0) single_agrees (complete (Either Several Negated) (Either Several Negated) after_single marked_agrees)

elements_agree : Agree Elements Elements never
elements_agree = after_agree m.Pattern (Between m.LeftRound (MoreOf (Alone Element) Element) m.RightRound) (Between m.LeftRound (MoreOf (Alone Element) Element) m.RightRound) never
    (between_agree m.LeftRound (MoreOf (Alone Element) Element) (MoreOf (Alone Element) Element) m.RightRound after_row p.row_out
    (more_agree (Alone Element) Element after_single element_head (p.element_begins 0) p.row_apart (alone_agree Element Element after_single element_agrees) element_agrees))

-- ---- definitions

definition_agrees : (n k : ℕ) → Agree (Definition n) (Definition k) after_pred
definition_agrees n k = pair_agree Name Name (After m.As (Pred n)) (After m.As (Pred k)) after_pred name_agrees (after_agree m.As (Pred n) (Pred k) after_pred (pred_agrees n k))

definitions_agree : (n k : ℕ) → Agree (Definitions n) (Definitions k) after_definitions
definitions_agree n k = after_agree m.Define (ListOf (Definition n)) (ListOf (Definition k)) after_definitions (list_agree (Definition n) (Definition k) after_pred a.comma_out (definition_agrees n k))

-- ---- the window

amount_agrees : Agree Amount Amount never
amount_agrees = pair_agree (One (kernel whole)) (One (kernel whole)) (One (kernel unit)) (One (kernel unit)) never (one_agrees (kernel whole)) (one_agrees (kernel unit))

within_agrees : Agree Within Within never
within_agrees = after_agree m.Within (Built (λ tokens p. (p.0, p.1, span tokens)) Amount) (Built (λ tokens p. (p.0, p.1, span tokens)) Amount) never
    (built_agree (λ tokens p. (p.0, p.1, span tokens)) Amount Amount never amount_agrees)

every_agrees : Agree Every Every never
every_agrees = built_agree (λ tokens p. o.Every p.0 p.1 (span tokens)) (After m.Every Amount) (After m.Every Amount) never (after_agree m.Every Amount Amount never amount_agrees)

abbrev When : ℕ → List Token → QueryOpening → Type 0
When n = Built (λ tokens p. o.When p) (After m.When (Pred n))

when_agrees : (n k : ℕ) → Agree (When n) (When k) after_pred
when_agrees n k = built_agree (λ tokens p. o.When p) (After m.When (Pred n)) (After m.When (Pred k)) after_pred (after_agree m.When (Pred n) (Pred k) after_pred (pred_agrees n k))

every_no_when : (x : Kernel) → is_some (mark m.Every x) ≡ true → is_some (mark m.When x) ≡ false
every_no_when (k.Word w.Every) h = refl
every_no_when _ h = absurd cc

every_starts : Starts (reads_as (kernel (mark m.Every))) Every
every_starts u x d = token_starts (kernel (mark m.Every)) Amount (λ tokens p. p.1) u d.of d.phrase

when_starts : (n : ℕ) → Starts (reads_as (kernel (mark m.When))) (When n)
when_starts n u x d = token_starts (kernel (mark m.When)) (Pred n) (λ tokens p. p.1) u d.of d.phrase

opening_agrees : (n k : ℕ) → Agree (Opening n) (Opening k) after_pred
opening_agrees n k = after_agree m.From (Either Every (When n)) (Either Every (When k)) after_pred
    (either_agree Every Every (When n) (When k) after_pred (reads_as (kernel (mark m.Every))) (reads_as (kernel (mark m.When))) (λ t. every_no_when t.kernel)
    every_starts every_starts (when_starts n) (when_starts k) (complete Every Every after_pred every_agrees) (when_agrees n k))

-- ---- the policy, and what a match consumes

policy_agrees : Agree Policy Policy never
policy_agrees = after_agree m.Select (One (kernel policy)) (One (kernel policy)) never (one_agrees (kernel policy))

consumed_agrees : Agree (z.ConsumedNames 0) (z.ConsumedNames 0) never
consumed_agrees = built_agree (λ tokens names. u.Names names) (z.Consumed 0) (z.Consumed 0) never
    (between_agree m.LeftRound (ListOf Name) (ListOf Name) m.RightRound after_list list_out (list_agree Name Name never (λ t h. refl) name_agrees))

consume_agrees : Agree Consume Consume never
consume_agrees = after_agree m.Consume (Either (One (kernel all_or_none)) (z.ConsumedNames 0)) (Either (One (kernel all_or_none)) (z.ConsumedNames 0)) never
    (either_agree (One (kernel all_or_none)) (One (kernel all_or_none)) (z.ConsumedNames 0) (z.ConsumedNames 0) never (reads_as (kernel all_or_none)) (reads_as (kernel (mark m.LeftRound)))
    (flips (reads_as (kernel (mark m.LeftRound))) (reads_as (kernel all_or_none)) (λ t. z.round_no_word t.kernel))
    (z.all_or_none_begins 0) (z.all_or_none_begins 0) (z.consumed_names_begin 0) (z.consumed_names_begin 0) (one_agrees (kernel all_or_none)) consumed_agrees)

-- ---- queries

-- a clause that begins with a mark, and then more
first_starts : {A B : Type 0} (F : Token → Bool) (L : List Token → A → Type 0) (M : List Token → B → Type 0) → Starts F L → Starts F (Both L M)
first_starts F L M begins u x d = r.both_begins F (λ _. L) (λ _. M) (λ _. begins) 0 u x d

-- one clause and the others, told apart by the mark that begins the others
parted_agree : {A B : Type 0} (F C : Token → Bool) (L L' : List Token → A → Type 0) (M M' : List Token → B → Type 0) → Clash F C → Starts F M → Starts F M' → Agree L L' C → Agree M M' never → Agree (Both L M) (Both L' M') never
parted_agree F C L L' M M' apart begins begins' one two = both_agree L L' M M' C never (begun F C never M begins apart) (begun F C never M' begins' apart) one two

pattern_out : (x : Kernel) → is_some (mark m.Pattern x) ≡ true → among (reads_as (kernel (mark m.Time))) never (sample x) ≡ false
pattern_out (k.Word w.Pattern) h = refl
pattern_out _ h = absurd cc

within_no_define : (x : Kernel) → is_some (mark m.Within x) ≡ true → is_some (mark m.Define x) ≡ false
within_no_define (k.Word w.Within) h = refl
within_no_define _ h = absurd cc

-- what follows each clause
abbrev BehindOpening : List Token → Word × QueryConsume → Type 0
BehindOpening = Both Policy Consume

abbrev BehindLength : ℕ → List Token → QueryOpening × (Word × QueryConsume) → Type 0
BehindLength n = Both (Opening n) BehindOpening

abbrev BehindDefinitions : ℕ → List Token → (ℕ × Word × Span) × (QueryOpening × (Word × QueryConsume)) → Type 0
BehindDefinitions n = Both Within (BehindLength n)

abbrev BehindPattern : ℕ → List Token → Option (List (Ident × Tree)) × ((ℕ × Word × Span) × (QueryOpening × (Word × QueryConsume))) → Type 0
BehindPattern n = Both (Optional (Definitions n)) (BehindDefinitions n)

abbrev BehindTime : ℕ → List Token → List QueryElement × (Option (List (Ident × Tree)) × ((ℕ × Word × Span) × (QueryOpening × (Word × QueryConsume)))) → Type 0
BehindTime n = Both Elements (BehindPattern n)

abbrev BehindColumns : ℕ → List Token → Option Ident × (List QueryElement × (Option (List (Ident × Tree)) × ((ℕ × Word × Span) × (QueryOpening × (Word × QueryConsume))))) → Type 0
BehindColumns n = Both (Optional Timed) (BehindTime n)

behind_length_agrees : (n k : ℕ) → Agree (BehindLength n) (BehindLength k) never
behind_length_agrees n k = parted_agree (reads_as (kernel (mark m.Select))) after_pred (Opening n) (Opening k) BehindOpening BehindOpening a.select_out
    (first_starts (reads_as (kernel (mark m.Select))) Policy Consume (z.policy_begins 0)) (first_starts (reads_as (kernel (mark m.Select))) Policy Consume (z.policy_begins 0))
    (opening_agrees n k) (pair_agree Policy Policy Consume Consume never policy_agrees consume_agrees)

behind_definitions_agrees : (n k : ℕ) → Agree (BehindDefinitions n) (BehindDefinitions k) never
behind_definitions_agrees n k = pair_agree Within Within (BehindLength n) (BehindLength k) never within_agrees (behind_length_agrees n k)

definitions_begin : (n : ℕ) → Starts (reads_as (kernel (mark m.Define))) (Definitions n)
definitions_begin n = token_starts (kernel (mark m.Define)) (ListOf (Definition n)) (λ tokens p. p.1)

behind_pattern_agrees : (n k : ℕ) → Agree (BehindPattern n) (BehindPattern k) never
behind_pattern_agrees n k = parted_agree (reads_as (kernel (mark m.Within))) (among (reads_as (kernel (mark m.Define))) after_definitions) (Optional (Definitions n)) (Optional (Definitions k)) (BehindDefinitions n) (BehindDefinitions k)
    (clash_both (reads_as (kernel (mark m.Within))) (reads_as (kernel (mark m.Define))) after_definitions (λ t. within_no_define t.kernel) a.within_out)
    (first_starts (reads_as (kernel (mark m.Within))) Within (BehindLength n) (z.within_begins 0)) (first_starts (reads_as (kernel (mark m.Within))) Within (BehindLength k) (z.within_begins 0))
    (optional_agree (Definitions n) (Definitions k) after_definitions (reads_as (kernel (mark m.Define))) (definitions_begin n) (definitions_begin k) (definitions_agree n k)) (behind_definitions_agrees n k)

behind_time_agrees : (n k : ℕ) → Agree (BehindTime n) (BehindTime k) never
behind_time_agrees n k = pair_agree Elements Elements (BehindPattern n) (BehindPattern k) never elements_agree (behind_pattern_agrees n k)

behind_columns_agrees : (n k : ℕ) → Agree (BehindColumns n) (BehindColumns k) never
behind_columns_agrees n k = parted_agree (reads_as (kernel (mark m.Pattern))) (among (reads_as (kernel (mark m.Time))) never) (Optional Timed) (Optional Timed) (BehindTime n) (BehindTime k) (λ t. pattern_out t.kernel)
    (first_starts (reads_as (kernel (mark m.Pattern))) Elements (BehindPattern n) (p.elements_begins 0)) (first_starts (reads_as (kernel (mark m.Pattern))) Elements (BehindPattern k) (p.elements_begins 0))
    (optional_agree Timed Timed never (reads_as (kernel (mark m.Time))) (v.timed_begins 0) (v.timed_begins 0) timed_agrees) (behind_time_agrees n k)

derives_agree : (n k : ℕ) → Agree (Derives n) (Derives k) never
derives_agree n k = built_agree query (Both Columns (BehindColumns n)) (Both Columns (BehindColumns k)) never (pair_agree Columns Columns (BehindColumns n) (BehindColumns k) never columns_agree (behind_columns_agrees n k))

-- Tokens are at most one query, whatever the numbers of levels.
pub derives_same : (n k : ℕ) (tokens : List Token) (x y : Query) → Derives n tokens x → Derives k tokens y → x ≡ y
derives_same n k tokens x y d e = (derives_agree n k tokens [] tokens [] x y d e refl refl refl).1

-- ---- texts

nothing_is_something : (t : Token) (ts : List Token) → [] ≡ t ∷ ts → ⊥
nothing_is_something t ts h = cc

-- A text has these tokens and no others.
pub tokens_same : (at : ℕ) (text : List ℕ) (ts us : List Token) → Tokens at text ts → Tokens at text us → ts ≡ us
tokens_same at text [] [] d e = refl
tokens_same at text (t ∷ ts) [] d e = let rest = split at text t d.0 d.1 [] e in absurd (nothing_is_something t rest.0 rest.1)
tokens_same at text ts (u ∷ us) d e =
    let rest = split at text u e.0 e.1 ts d in
    rest.1 ∙ ap (λ l. u ∷ l) (tokens_same u.span.to e.0 rest.0 us rest.2 e.2)

-- A text is at most one query.
pub one_query : (text : List ℕ) (query other : Query) → IsQuery text query → IsQuery text other → query ≡ other
one_query text query other x y =
    let same = tokens_same 0 text x.tokens y.tokens x.of_text y.of_text in
    derives_same 64 64 y.tokens query other (subst (λ l. Derives 64 l query) same x.derives) y.derives
