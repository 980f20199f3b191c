-- Definitions, and what opens a window.
use Rattle.std.proofs.Common.{◌≡◌, ◌||◌, ◌<◌, ◌++◌, ℕ, true, false, List, length, is_some, Result, refl, ◌∙◌}
use Rattle.sp_lex.specs.declared.token.Token.{Token}
use Rattle.sp_lex.specs.declared.token.Span.{Span}
use Rattle.sp_lex.specs.declared.token.Kernel.{Kernel}
use Rattle.sp_lex.specs.declared.token.Kernel.TheVariants as k
use Rattle.sp_lex.specs.declared.token.Word.{Word}
use Rattle.sp_lex.specs.declared.token.Word.TheVariants as w
use Rattle.sp_query.specs.declared.mark.Mark.TheVariants as m
use Rattle.sp_query.specs.declared.tree.Tree.{Tree}
use Rattle.sp_query.specs.declared.query.Ident.{Ident}
use Rattle.sp_query.specs.declared.query.QueryOpening.{QueryOpening}
use Rattle.sp_query.specs.declared.query.QueryOpening.TheVariants as o
use Rattle.sp_parse.specs.declared.stop.Stop.{Stop}
use Rattle.sp_query.specs.Phrase.{Either, Built}
use Rattle.sp_query.specs.Grammar.{kernel, mark, times, plus, both_hold, one_holds, span, After, ListOf, Name, Pred, Definition, Definitions, Amount, Every, Opening}
use Rattle.sp_parse.specs.Follow.{after_pred, after_definitions}
use Rattle.sp_parse.specs.Reads.{never, reads_as, head_as, Found, Stops, TakesNone, Answers}
use Rattle.sp_parse.proofs.Reading as r
use Rattle.sp_parse.proofs.Reading.{Begins}
use Rattle.sp_parse.proofs.Forms as f
use Rattle.sp_parse.proofs.Nested.{Some_of}
use Rattle.sp_parse.proofs.Marks.{IsOne, other}
use Rattle.sp_parse.proofs.Atoms.{pred_some}
use Rattle.sp_parse.proofs.EventClause.{name_some}
use Rattle.sp_parse.proofs.EndClauses.{amount_some, amount_shorter}

-- ---- name AS pred

abbrev pub As : ℕ → List Token → Tree → Type 0
As = λ n. After m.As (Pred n)

as_some : Some_of As
as_some = f.after_some m.As Pred after_pred pred_some

module _ (room : ℕ) (s : List Token) where
  pub name_stops : (e : Stop) → Stops (λ _. Name) never room s e → Stops Definition after_pred room s e
  name_stops = f.pair_first_stops (λ _. Name) As after_pred room s as_some

  pub as_stops : (m_ : List Token) (a : Ident) (e : Stop) → Found (λ _. Name) never room s a m_ → TakesNone (kernel (mark m.As)) m_ e → Stops Definition after_pred room s e
  as_stops m_ a e x h = f.pair_second_stops (λ _. Name) As after_pred room s m_ a e x (f.after_mark_stops m.As Pred after_pred pred_some room m_ e h)

  pub pred_stops : (m_ l : List Token) (a : Ident) (e : Stop) → Found (λ _. Name) never room s a m_ → IsOne (mark m.As) m_ tt l → Stops Pred after_pred room l e → Stops Definition after_pred room s e
  pred_stops m_ l a e x i h = f.pair_second_stops (λ _. Name) As after_pred room s m_ a e x (f.after_stops m.As Pred after_pred pred_some room m_ l e i h)

  pub definition_found : (m_ l rest : List Token) (a : Ident) (b : Tree) → Found (λ _. Name) never room s a m_ → IsOne (mark m.As) m_ tt l → Found Pred after_pred room l b rest → Found Definition after_pred room s (a, b) rest
  definition_found m_ l rest a b x i y = f.pair_found (λ _. Name) As after_pred room s m_ rest a b x (f.after_found m.As Pred after_pred pred_some room m_ l rest b i y)

-- ---- definitions with commas between them

comma_out : (x : Kernel) → is_some (mark m.Comma x) ≡ true → ((((is_some (mark m.Dot x) || is_some (times x)) || is_some (plus x)) || is_some (both_hold x)) || is_some (one_holds x)) ≡ false
comma_out k.Comma h = refl
comma_out _ h = absurd cc

-- no comma goes on with a predicate
pub comma_apart : (t : Token) → is_some (mark m.Comma t.kernel) ≡ true → after_pred t ≡ false
comma_apart t h = comma_out t.kernel h

pub list_some : Some_of (λ n. ListOf (Definition n))
list_some = f.list_some Definition after_pred comma_apart (f.pair_some (λ _. Name) As name_some as_some)

pub definitions_begins : Begins (reads_as (kernel (mark m.Define))) Definitions
definitions_begins = f.after_begins m.Define (λ n. ListOf (Definition n)) after_definitions list_some

-- ---- EVERY whole ( EVENTS | TIME )

abbrev pub Counted : ℕ → List Token → ℕ × Word → Type 0
Counted = λ _. After m.Every Amount

abbrev pub every_of : List Token → ℕ × Word → QueryOpening
every_of tokens p = o.Every p.0 p.1 (span tokens)

counted_some : Some_of Counted
counted_some = f.after_some m.Every (λ _. Amount) never amount_some

every_some : Some_of (λ _. Every)
every_some = f.built_some every_of Counted counted_some

pub every_begins : Begins (reads_as (kernel (mark m.Every))) (λ _. Every)
every_begins = r.built_begins every_of (reads_as (kernel (mark m.Every))) Counted (f.after_begins m.Every (λ _. Amount) never amount_some)

module _ (room : ℕ) (s : List Token) where
  pub every_mark_stops : (e : Stop) → TakesNone (kernel (mark m.Every)) s e → Stops (λ _. Every) never room s e
  every_mark_stops e h = f.built_stops every_of Counted never room s e (f.after_mark_stops m.Every (λ _. Amount) never amount_some room s e h)

  pub every_stops : (m_ : List Token) (e : Stop) → IsOne (mark m.Every) s tt m_ → Stops (λ _. Amount) never room m_ e → Stops (λ _. Every) never room s e
  every_stops m_ e i h = f.built_stops every_of Counted never room s e (f.after_stops m.Every (λ _. Amount) never amount_some room s m_ e i h)

  pub every_shorter : (m_ rest : List Token) (p : ℕ × Word) → IsOne (mark m.Every) s tt m_ → Found (λ _. Amount) never room m_ p rest → length rest < length s
  every_shorter m_ rest p i x = r.shorter_still s m_ rest i.0 i.1 (amount_shorter room m_ rest p x)

  pub every_found : (m_ rest : List Token) (p : ℕ × Word) (at : Span) → IsOne (mark m.Every) s tt m_ → Found (λ _. Amount) never room m_ p rest → ((front : List Token) → s ≡ front ++ rest → at ≡ span front)
      → Found (λ _. Every) never room s (o.Every p.0 p.1 at) rest
  every_found m_ rest p at i x e = r.built_as every_of Counted never room s rest p (o.Every p.0 p.1 at) (λ front cut. λ j. o.Every p.0 p.1 (e front cut j)) (f.after_found m.Every (λ _. Amount) never amount_some room s m_ rest p i x)

-- ---- WHEN pred

abbrev pub Tested : ℕ → List Token → Tree → Type 0
Tested = λ n. After m.When (Pred n)

abbrev pub when_of : List Token → Tree → QueryOpening
when_of tokens p = o.When p

abbrev pub When : ℕ → List Token → QueryOpening → Type 0
When = λ n. Built when_of (Tested n)

when_begins : Begins (reads_as (kernel (mark m.When))) When
when_begins = r.built_begins when_of (reads_as (kernel (mark m.When))) Tested (f.after_begins m.When Pred after_pred pred_some)

module _ (room : ℕ) (s : List Token) where
  pub when_mark_stops : (e : Stop) → TakesNone (kernel (mark m.When)) s e → Stops When after_pred room s e
  when_mark_stops e h = f.built_stops when_of Tested after_pred room s e (f.after_mark_stops m.When Pred after_pred pred_some room s e h)

  pub when_stops : (m_ : List Token) (e : Stop) → IsOne (mark m.When) s tt m_ → Stops Pred after_pred room m_ e → Stops When after_pred room s e
  when_stops m_ e i h = f.built_stops when_of Tested after_pred room s e (f.after_stops m.When Pred after_pred pred_some room s m_ e i h)

  pub when_found : (m_ rest : List Token) (a : Tree) → IsOne (mark m.When) s tt m_ → Found Pred after_pred room m_ a rest → Found When after_pred room s (o.When a) rest
  when_found m_ rest a i x = r.built_found when_of Tested after_pred room s rest a (f.after_found m.When Pred after_pred pred_some room s m_ rest a i x)

-- ---- EVERY or WHEN

abbrev pub Choice : ℕ → List Token → QueryOpening → Type 0
Choice = λ n. Either Every (When n)

every_no_when : (x : Kernel) → is_some (mark m.Every x) ≡ true → is_some (mark m.When x) ≡ false
every_no_when (k.Word w.Every) h = refl
every_no_when _ h = absurd cc

module _ {Y : Type 0} (room : ℕ) (s : List Token) (view : Y → QueryOpening × List Token) (y : Result Y Stop) where
  pub every_chosen : is_some (head_as (kernel (mark m.Every)) s) ≡ true → Answers (λ _. Every) never room s view y → Answers Choice after_pred room s view y
  every_chosen i h = f.left_answers (λ _. Every) When after_pred (reads_as (kernel (mark m.When))) room s view y when_begins (other (mark m.Every) (mark m.When) every_no_when s i)
      (f.within_answers (λ _. Every) never after_pred (λ v q. r.heads_never v) room s view y h)

  pub when_chosen : is_some (head_as (kernel (mark m.Every)) s) ≡ false → Answers When after_pred room s view y → Answers Choice after_pred room s view y
  when_chosen i h = f.right_answers (λ _. Every) When after_pred (reads_as (kernel (mark m.Every))) room s view y every_begins (r.head_test (kernel (mark m.Every)) s ∙ i) h

pub choice_some : Some_of Choice
choice_some = f.left_some (λ _. Every) When every_some

pub opening_some : Some_of Opening
opening_some = f.after_some m.From Choice after_pred choice_some
