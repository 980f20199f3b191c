-- Columns and the time.
use Rattle.std.proofs.Common.{◌≡◌, ◌<◌, ◌++◌, ℕ, Bool, true, false, List, [], length, is_some, refl, ◌∙◌, ap}
use Rattle.sp_lex.specs.declared.token.Token.{Token}
use Rattle.sp_lex.specs.declared.token.Span.{Span}
use Rattle.sp_lex.specs.declared.token.Kernel.{Kernel}
use Rattle.sp_lex.specs.declared.token.Kernel.TheVariants as k
use Rattle.sp_lex.specs.declared.token.Word.{Word}
use Rattle.sp_lex.specs.declared.token.Word.TheVariants as w
use Rattle.sp_query.specs.declared.mark.Mark.TheVariants as m
use Rattle.sp_query.specs.declared.query.Ident.{Ident}
use Rattle.sp_query.specs.declared.query.QueryColumn.{QueryColumn}
use Rattle.sp_query.specs.Phrase.{One, Both, Built}
use Rattle.sp_query.specs.Grammar.{span, kernel, mark, name, whole, plain_kind, After, ListOf, Name, KindOf, Column, Columns, Timed}
use Rattle.sp_parse.specs.declared.stop.Stop.{Stop}
use Rattle.sp_parse.specs.Reads.{never, reads_as, among, head_as, Found, Stops, TakesNone}
use Rattle.sp_parse.proofs.Reading as r
use Rattle.sp_parse.proofs.Reading.{Begins}
use Rattle.sp_parse.proofs.Marks as one
use Rattle.sp_parse.proofs.Marks.{IsOne, some_one, other}
use Rattle.sp_parse.proofs.Nested.{Some_of}
use Rattle.sp_parse.proofs.Forms as f

-- ---- a name

abbrev pub ident_at : List ℕ → Span → Ident
ident_at text at = record { text = text; span = at }

abbrev ident_of : List Token → List ℕ → Ident
ident_of tokens x = ident_at x (span tokens)

pub name_begins : Begins (reads_as (kernel name)) (λ _. Name)
name_begins = r.built_begins ident_of (reads_as (kernel name)) (λ _. One (kernel name)) (r.one_begins (kernel name))

pub name_some : Some_of (λ _. Name)
name_some = f.built_some ident_of (λ _. One (kernel name)) (some_one name (k.Name []) [] refl)

module _ (room : ℕ) (s : List Token) where
  pub name_stops : (x : Stop) → TakesNone (kernel name) s x → Stops (λ _. Name) never room s x
  name_stops x h = f.built_stops ident_of (λ _. One (kernel name)) never room s x (one.name_stops room s x h)

  pub name_found : (rest : List Token) (text : List ℕ) (at : Span) → IsOne name s text rest → ((front : List Token) → s ≡ front ++ rest → at ≡ span front) → Found (λ _. Name) never room s (ident_at text at) rest
  name_found rest text at h e = r.built_as ident_of (λ _. One (kernel name)) never room s rest text (ident_at text at) (λ front cut. ap (ident_at text) (e front cut)) (one.one_found name room s rest text h)

-- ---- INT, TEXT or DEC with its digits

abbrev plain_of : List Token → Word → Word × ℕ
plain_of tokens word = (word, 0)

abbrev decimal_of : List Token → ℕ → Word × ℕ
decimal_of tokens digits = (w.Dec, digits)

abbrev Plain : ℕ → List Token → Word × ℕ → Type 0
Plain = λ _. Built plain_of (One (kernel plain_kind))

abbrev pub Digits : ℕ → List Token → ℕ → Type 0
Digits = λ _. After m.Dec (One (kernel whole))

abbrev Decimal : ℕ → List Token → Word × ℕ → Type 0
Decimal = λ n. Built decimal_of (Digits n)

pub whole_some : Some_of (λ _. One (kernel whole))
whole_some = some_one whole (k.Whole 0) 0 refl

pub plain_begins : Begins (reads_as (kernel plain_kind)) Plain
plain_begins = r.built_begins plain_of (reads_as (kernel plain_kind)) (λ _. One (kernel plain_kind)) (r.one_begins (kernel plain_kind))

pub decimal_begins : Begins (reads_as (kernel (mark m.Dec))) Decimal
decimal_begins = r.built_begins decimal_of (reads_as (kernel (mark m.Dec))) Digits (f.after_begins m.Dec (λ _. One (kernel whole)) never whole_some)

kind_begins : Begins (among (reads_as (kernel plain_kind)) (reads_as (kernel (mark m.Dec)))) (λ _. KindOf)
kind_begins = r.either_begins (reads_as (kernel plain_kind)) (reads_as (kernel (mark m.Dec))) Plain Decimal plain_begins decimal_begins

plain_some : Some_of Plain
plain_some = f.built_some plain_of (λ _. One (kernel plain_kind)) (some_one plain_kind (k.Word w.Int) w.Int refl)

kind_some : Some_of (λ _. KindOf)
kind_some = f.left_some Plain Decimal plain_some

pub dec_no_plain : (x : Kernel) → is_some (mark m.Dec x) ≡ true → is_some (plain_kind x) ≡ false
dec_no_plain (k.Word w.Dec) h = refl
dec_no_plain _ h = absurd cc

module _ (room : ℕ) (s : List Token) where
  pub kind_digits_stop : (x : Stop) → is_some (head_as (kernel (mark m.Dec)) s) ≡ true → Stops Digits never room s x → Stops (λ _. KindOf) never room s x
  kind_digits_stop x is h = f.right_stops Plain Decimal never (reads_as (kernel plain_kind)) room s x plain_begins (other (mark m.Dec) plain_kind dec_no_plain s is) (f.built_stops decimal_of Digits never room s x h)

  pub kind_digits_found : (rest : List Token) (digits : ℕ) → is_some (head_as (kernel (mark m.Dec)) s) ≡ true → Found Digits never room s digits rest → Found (λ _. KindOf) never room s (w.Dec, digits) rest
  kind_digits_found rest digits is h = r.right_found Plain Decimal never (reads_as (kernel plain_kind)) room s rest (w.Dec, digits) plain_begins (other (mark m.Dec) plain_kind dec_no_plain s is)
      (r.built_as decimal_of Digits never room s rest digits (w.Dec, digits) (λ front cut. refl) h)

  pub kind_plain_stops : (x : Stop) → is_some (head_as (kernel (mark m.Dec)) s) ≡ false → TakesNone (kernel plain_kind) s x → Stops (λ _. KindOf) never room s x
  kind_plain_stops x out h = f.left_stops Plain Decimal never (reads_as (kernel (mark m.Dec))) room s x decimal_begins (r.head_test (kernel (mark m.Dec)) s ∙ out)
      (f.built_stops plain_of (λ _. One (kernel plain_kind)) never room s x (r.untaken_stops (kernel plain_kind) (one.sample (k.Word w.Int)) w.Int refl room s x h))

  pub kind_plain_found : (rest : List Token) (word : Word) → is_some (head_as (kernel (mark m.Dec)) s) ≡ false → IsOne plain_kind s word rest → Found (λ _. KindOf) never room s (word, 0) rest
  kind_plain_found rest word out h = r.left_found Plain Decimal never (reads_as (kernel (mark m.Dec))) room s rest (word, 0) decimal_begins (r.head_test (kernel (mark m.Dec)) s ∙ out)
      (r.built_as plain_of (λ _. One (kernel plain_kind)) never room s rest word (word, 0) (λ front cut. refl) (one.one_found plain_kind room s rest word h))

-- ---- a column

abbrev pub column_at : Ident → Word × ℕ → Span → QueryColumn
column_at x kind at = record { name = x; kind = kind.0; digits = kind.1; span = at }

abbrev column_of : List Token → Ident × (Word × ℕ) → QueryColumn
column_of tokens p = column_at p.0 p.1 (span tokens)

abbrev Parts : ℕ → List Token → Ident × (Word × ℕ) → Type 0
Parts = λ _. Both Name KindOf

parts_begin : Begins (reads_as (kernel name)) Parts
parts_begin = r.both_begins (reads_as (kernel name)) (λ _. Name) (λ _. KindOf) name_begins

pub column_begins : Begins (reads_as (kernel name)) (λ _. Column)
column_begins = r.built_begins column_of (reads_as (kernel name)) Parts parts_begin

pub column_some : Some_of (λ _. Column)
column_some = f.built_some column_of Parts (f.pair_some (λ _. Name) (λ _. KindOf) name_some kind_some)

module _ (room : ℕ) (s : List Token) where
  pub column_name_stops : (x : Stop) → Stops (λ _. Name) never room s x → Stops (λ _. Column) never room s x
  column_name_stops x h = f.built_stops column_of Parts never room s x (f.pair_first_stops (λ _. Name) (λ _. KindOf) never room s kind_some x h)

  pub column_kind_stops : (m_ : List Token) (a : Ident) (x : Stop) → Found (λ _. Name) never room s a m_ → Stops (λ _. KindOf) never room m_ x → Stops (λ _. Column) never room s x
  column_kind_stops m_ a x i h = f.built_stops column_of Parts never room s x (f.pair_second_stops (λ _. Name) (λ _. KindOf) never room s m_ a x i h)

  pub column_shorter : (m_ rest : List Token) (a : Ident) (b : Word × ℕ) → Found (λ _. Name) never room s a m_ → Found (λ _. KindOf) never room m_ b rest → length rest < length s
  column_shorter m_ rest a b i h = r.found_shorter Parts never (reads_as (kernel name)) room s rest (a, b) parts_begin (f.pair_found (λ _. Name) (λ _. KindOf) never room s m_ rest a b i h)

  pub column_found : (m_ rest : List Token) (a : Ident) (b : Word × ℕ) (at : Span) → Found (λ _. Name) never room s a m_ → Found (λ _. KindOf) never room m_ b rest
      → ((front : List Token) → s ≡ front ++ rest → at ≡ span front) → Found (λ _. Column) never room s (column_at a b at) rest
  column_found m_ rest a b at i h e = r.built_as column_of Parts never room s rest (a, b) (column_at a b at) (λ front cut. ap (column_at a b) (e front cut))
      (f.pair_found (λ _. Name) (λ _. KindOf) never room s m_ rest a b i h)

-- ---- the clauses

-- behind a list, with commas or at its end
abbrev pub after_list : Token → Bool
after_list = among never (reads_as (kernel (mark m.Comma)))

pub round_no_comma : (x : Kernel) → is_some (mark m.RightRound x) ≡ true → is_some (mark m.Comma x) ≡ false
round_no_comma k.RightRound h = refl
round_no_comma _ h = absurd cc

pub list_out : (t : Token) → is_some (mark m.RightRound t.kernel) ≡ true → after_list t ≡ false
list_out t h = round_no_comma t.kernel h

pub list_some : Some_of (λ _. ListOf Column)
list_some = f.list_some (λ _. Column) never (λ t h. refl) column_some

pub columns_begins : Begins (reads_as (kernel (mark m.Event))) (λ _. Columns)
columns_begins = f.clause_begins m.Event (λ _. ListOf Column) after_list list_some list_out

pub columns_some : Some_of (λ _. Columns)
columns_some = f.clause_some m.Event (λ _. ListOf Column) after_list list_some list_out

pub timed_begins : Begins (reads_as (kernel (mark m.Time))) (λ _. Timed)
timed_begins = f.after_begins m.Time (λ _. Name) never name_some

pub timed_some : Some_of (λ _. Timed)
timed_some = f.after_some m.Time (λ _. Name) never name_some
