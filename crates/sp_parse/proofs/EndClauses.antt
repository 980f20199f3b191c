-- The window's length, the policy and what a match consumes.
use Rattle.std.proofs.Common.{◌≡◌, ◌<◌, ◌++◌, ℕ, true, false, List, length, is_some, Result, Bor, refl, ◌∙◌, ap}
use Rattle.sp_lex.specs.declared.token.Token.{Token}
use Rattle.sp_lex.specs.declared.token.Span.{Span}
use Rattle.sp_lex.specs.declared.token.Kernel.{Kernel}
use Rattle.sp_lex.specs.declared.token.Kernel.TheVariants as k
use Rattle.sp_lex.specs.declared.token.Word.{Word}
use Rattle.sp_lex.specs.declared.token.Word.TheVariants as w
use Rattle.sp_query.specs.declared.mark.Mark.TheVariants as m
use Rattle.sp_query.specs.declared.query.Ident.{Ident}
use Rattle.sp_query.specs.declared.query.QueryConsume.{QueryConsume}
use Rattle.sp_query.specs.declared.query.QueryConsume.TheVariants as u
use Rattle.sp_query.specs.Phrase.{One, Either, Built}
use Rattle.sp_query.specs.Grammar.{span, kernel, mark, whole, unit, policy, all_or_none, Between, ListOf, Name, Amount, Within, Policy, Consume}
use Rattle.sp_parse.specs.declared.stop.Stop.{Stop}
use Rattle.sp_parse.specs.Reads.{never, reads_as, head_as, Found, Stops, Answers, Takes, TakesNone, Closes}
use Rattle.sp_parse.proofs.Reading as r
use Rattle.sp_parse.proofs.Reading.{Begins}
use Rattle.sp_parse.proofs.Marks as one
use Rattle.sp_parse.proofs.Marks.{IsOne, some_one, other}
use Rattle.sp_parse.proofs.Nested.{Some_of}
use Rattle.sp_parse.proofs.Forms as f
use Rattle.sp_parse.proofs.EventClause.{name_some, whole_some, after_list, list_out}

-- ---- a number of events or of time

unit_some : Some_of (λ _. One (kernel unit))
unit_some = some_one unit (k.Word w.Events) w.Events refl

pub amount_begins : Begins (reads_as (kernel whole)) (λ _. Amount)
amount_begins = r.both_begins (reads_as (kernel whole)) (λ _. One (kernel whole)) (λ _. One (kernel unit)) (r.one_begins (kernel whole))

pub amount_some : Some_of (λ _. Amount)
amount_some = f.pair_some (λ _. One (kernel whole)) (λ _. One (kernel unit)) whole_some unit_some

module _ (room : ℕ) (s : List Token) where
  pub amount_count_stops : (x : Stop) → TakesNone (kernel whole) s x → Stops (λ _. Amount) never room s x
  amount_count_stops x h = f.pair_first_stops (λ _. One (kernel whole)) (λ _. One (kernel unit)) never room s unit_some x (r.untaken_stops (kernel whole) (one.sample (k.Whole 0)) 0 refl room s x h)

  pub amount_unit_stops : (m_ : List Token) (count : ℕ) (x : Stop) → IsOne whole s count m_ → TakesNone (kernel unit) m_ x → Stops (λ _. Amount) never room s x
  amount_unit_stops m_ count x i h = f.pair_second_stops (λ _. One (kernel whole)) (λ _. One (kernel unit)) never room s m_ count x (one.one_found whole room s m_ count i)
      (r.untaken_stops (kernel unit) (one.sample (k.Word w.Events)) w.Events refl room m_ x h)

  pub amount_found : (m_ rest : List Token) (count : ℕ) (word : Word) → IsOne whole s count m_ → IsOne unit m_ word rest → Found (λ _. Amount) never room s (count, word) rest
  amount_found m_ rest count word i j = f.pair_found (λ _. One (kernel whole)) (λ _. One (kernel unit)) never room s m_ rest count word (one.one_found whole room s m_ count i) (one.one_found unit room m_ rest word j)

  pub amount_shorter : (rest : List Token) (p : ℕ × Word) → Found (λ _. Amount) never room s p rest → length rest < length s
  amount_shorter rest p h = r.found_shorter (λ _. Amount) never (reads_as (kernel whole)) room s rest p amount_begins h

-- ---- the window's length

abbrev length_at : ℕ × Word → Span → ℕ × Word × Span
length_at p at = (p.0, p.1, at)

abbrev length_of : List Token → ℕ × Word → ℕ × Word × Span
length_of tokens p = length_at p (span tokens)

abbrev Length : ℕ → List Token → ℕ × Word × Span → Type 0
Length = λ _. Built length_of Amount

length_some : Some_of Length
length_some = f.built_some length_of (λ _. Amount) amount_some

pub within_begins : Begins (reads_as (kernel (mark m.Within))) (λ _. Within)
within_begins = f.after_begins m.Within Length never length_some

pub within_some : Some_of (λ _. Within)
within_some = f.after_some m.Within Length never length_some

module _ (room : ℕ) (s : List Token) where
  pub within_mark_stops : (x : Stop) → TakesNone (kernel (mark m.Within)) s x → Stops (λ _. Within) never room s x
  within_mark_stops x h = f.after_mark_stops m.Within Length never length_some room s x h

  pub within_stops : (m_ : List Token) (x : Stop) → IsOne (mark m.Within) s tt m_ → Stops (λ _. Amount) never room m_ x → Stops (λ _. Within) never room s x
  within_stops m_ x i h = f.after_stops m.Within Length never length_some room s m_ x i (f.built_stops length_of (λ _. Amount) never room m_ x h)

  pub within_found : (m_ rest : List Token) (p : ℕ × Word) (at : Span) → IsOne (mark m.Within) s tt m_ → Found (λ _. Amount) never room m_ p rest → ((front : List Token) → m_ ≡ front ++ rest → at ≡ span front)
      → Found (λ _. Within) never room s (length_at p at) rest
  within_found m_ rest p at i h e = f.after_found m.Within Length never length_some room s m_ rest (length_at p at) i
      (r.built_as length_of (λ _. Amount) never room m_ rest p (length_at p at) (λ front cut. ap (length_at p) (e front cut)) h)

-- ---- the policy

policy_one : Some_of (λ _. One (kernel policy))
policy_one = some_one policy (k.Word w.First) w.First refl

pub policy_begins : Begins (reads_as (kernel (mark m.Select))) (λ _. Policy)
policy_begins = f.after_begins m.Select (λ _. One (kernel policy)) never policy_one

pub policy_some : Some_of (λ _. Policy)
policy_some = f.after_some m.Select (λ _. One (kernel policy)) never policy_one

module _ (room : ℕ) (s : List Token) where
  pub policy_mark_stops : (x : Stop) → TakesNone (kernel (mark m.Select)) s x → Stops (λ _. Policy) never room s x
  policy_mark_stops x h = f.after_mark_stops m.Select (λ _. One (kernel policy)) never policy_one room s x h

  pub policy_answers : {Y : Type 0} (m_ : List Token) (view : Y → Word × List Token) (y : Result Y Stop) → IsOne (mark m.Select) s tt m_ → Takes (kernel policy) m_ view y → Answers (λ _. Policy) never room s view y
  policy_answers m_ view y i h = f.after_answers m.Select (λ _. One (kernel policy)) never policy_one room s m_ view y i (f.takes_answers policy (k.Word w.First) w.First refl room m_ view y h)

-- ---- what a match consumes

list_some : Some_of (λ _. ListOf Name)
list_some = f.list_some (λ _. Name) never (λ t h. refl) name_some

abbrev pub Consumed : ℕ → List Token → List Ident → Type 0
Consumed = λ _. Between m.LeftRound (ListOf Name) m.RightRound

module _ (room : ℕ) (s : List Token) where
  pub consumed_left_stops : (x : Stop) → TakesNone (kernel (mark m.LeftRound)) s x → Stops Consumed never room s x
  consumed_left_stops x h = f.between_first_stops m.LeftRound (λ _. ListOf Name) m.RightRound after_list list_some list_out room s x h

  pub consumed_closes : (m_ : List Token) (read y : Result (List Ident × Bor (List Token)) Stop) → IsOne (mark m.LeftRound) s tt m_ → Answers (λ _. ListOf Name) after_list room m_ (λ p. (p.0, p.1.now)) read
      → Closes (kernel (mark m.RightRound)) read y → Answers Consumed never room s (λ p. (p.0, p.1.now)) y
  consumed_closes m_ read y i a h = f.between_closes m.LeftRound (λ _. ListOf Name) m.RightRound after_list list_some list_out room s m_ read y i a h

abbrev names_of : List Token → List Ident → QueryConsume
names_of tokens names = u.Names names

abbrev AllOrNone : ℕ → List Token → QueryConsume → Type 0
AllOrNone = λ _. One (kernel all_or_none)

abbrev pub ConsumedNames : ℕ → List Token → QueryConsume → Type 0
ConsumedNames = λ n. Built names_of (Consumed n)

abbrev Consumption : ℕ → List Token → QueryConsume → Type 0
Consumption = λ n. Either (AllOrNone n) (ConsumedNames n)

pub all_or_none_begins : Begins (reads_as (kernel all_or_none)) AllOrNone
all_or_none_begins = r.one_begins (kernel all_or_none)

pub consumed_names_begin : Begins (reads_as (kernel (mark m.LeftRound))) ConsumedNames
consumed_names_begin = r.built_begins names_of (reads_as (kernel (mark m.LeftRound))) Consumed (f.between_begins m.LeftRound (λ _. ListOf Name) m.RightRound after_list list_some list_out)

consumption_some : Some_of Consumption
consumption_some = f.left_some AllOrNone ConsumedNames (some_one all_or_none (k.Word w.All) u.All refl)

pub consume_begins : Begins (reads_as (kernel (mark m.Consume))) (λ _. Consume)
consume_begins = f.after_begins m.Consume Consumption never consumption_some

pub consume_some : Some_of (λ _. Consume)
consume_some = f.after_some m.Consume Consumption never consumption_some

pub round_no_word : (x : Kernel) → is_some (mark m.LeftRound x) ≡ true → is_some (all_or_none x) ≡ false
round_no_word k.LeftRound h = refl
round_no_word _ h = absurd cc

module _ (room : ℕ) (s : List Token) where
  pub consume_mark_stops : (x : Stop) → TakesNone (kernel (mark m.Consume)) s x → Stops (λ _. Consume) never room s x
  consume_mark_stops x h = f.after_mark_stops m.Consume Consumption never consumption_some room s x h

  pub consume_names_stop : (m_ : List Token) (x : Stop) → IsOne (mark m.Consume) s tt m_ → is_some (head_as (kernel (mark m.LeftRound)) m_) ≡ true → Stops Consumed never room m_ x → Stops (λ _. Consume) never room s x
  consume_names_stop m_ x i is h = f.after_stops m.Consume Consumption never consumption_some room s m_ x i
      (f.right_stops AllOrNone ConsumedNames never (reads_as (kernel all_or_none)) room m_ x all_or_none_begins (other (mark m.LeftRound) all_or_none round_no_word m_ is) (f.built_stops names_of Consumed never room m_ x h))

  pub consume_names_found : (m_ rest : List Token) (names : List Ident) → IsOne (mark m.Consume) s tt m_ → is_some (head_as (kernel (mark m.LeftRound)) m_) ≡ true → Found Consumed never room m_ names rest
      → Found (λ _. Consume) never room s (u.Names names) rest
  consume_names_found m_ rest names i is h = f.after_found m.Consume Consumption never consumption_some room s m_ rest (u.Names names) i
      (r.right_found AllOrNone ConsumedNames never (reads_as (kernel all_or_none)) room m_ rest (u.Names names) all_or_none_begins (other (mark m.LeftRound) all_or_none round_no_word m_ is)
      (r.built_as names_of Consumed never room m_ rest names (u.Names names) (λ front cut. refl) h))

  pub consume_word_answers : {Y : Type 0} (m_ : List Token) (view : Y → QueryConsume × List Token) (y : Result Y Stop) → IsOne (mark m.Consume) s tt m_ → is_some (head_as (kernel (mark m.LeftRound)) m_) ≡ false
      → Takes (kernel all_or_none) m_ view y → Answers (λ _. Consume) never room s view y
  consume_word_answers m_ view y i out h = f.after_answers m.Consume Consumption never consumption_some room s m_ view y i
      (f.left_answers AllOrNone ConsumedNames never (reads_as (kernel (mark m.LeftRound))) room m_ view y consumed_names_begin (r.head_test (kernel (mark m.LeftRound)) m_ ∙ out)
      (f.takes_answers all_or_none (k.Word w.All) u.All refl room m_ view y h))
