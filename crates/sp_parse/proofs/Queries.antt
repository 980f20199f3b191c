-- The whole query, and what its tokens answer.
use Rattle.std.proofs.Common.{◌≡◌, ◌≢◌, ◌++◌, ◌||◌, ◌==◌, ℕ, Bool, true, false, List, [], ◌∷◌, length, Option, Some, None, is_some, Result, Ok, Err, Bor, IfOk, IfErr, inl, inr, refl, sym, ◌∙◌, ap, subst, append_assoc, append-nil, length-append, arith}
use Rattle.std.proofs.lemmas.Bool.Decides.{nat_tests}
use Rattle.sp_lex.specs.declared.token.Token.{Token}
use Rattle.sp_lex.specs.declared.token.Span.{Span}
use Rattle.sp_lex.specs.declared.token.Kernel.{Kernel}
use Rattle.sp_lex.specs.declared.token.Kernel.TheVariants as k
use Rattle.sp_lex.specs.declared.token.Word.{Word}
use Rattle.sp_lex.specs.declared.token.Word.TheVariants as w
use Rattle.sp_query.specs.declared.mark.Mark.TheVariants as m
use Rattle.sp_query.specs.declared.tree.Tree.{Tree}
use Rattle.sp_query.specs.declared.query.Ident.{Ident}
use Rattle.sp_query.specs.declared.query.Query.{Query}
use Rattle.sp_query.specs.declared.query.QueryColumn.{QueryColumn}
use Rattle.sp_query.specs.declared.query.QueryElement.{QueryElement}
use Rattle.sp_query.specs.declared.query.QueryOpening.{QueryOpening}
use Rattle.sp_query.specs.declared.query.QueryConsume.{QueryConsume}
use Rattle.sp_query.specs.Phrase.{Both, Optional}
use Rattle.sp_query.specs.Grammar as g
use Rattle.sp_query.specs.Grammar.{kernel, mark, times, plus, both_hold, one_holds, Derives}
use Rattle.sp_parse.specs.declared.stop.Stop.{Stop}
use Rattle.sp_parse.specs.declared.stop.Stop.TheVariants as stop
use Rattle.sp_parse.specs.Clauses.{Ending, EndingValue, Body, BodyValue}
use Rattle.sp_parse.specs.Follow.{after_pred, after_definitions}
use Rattle.sp_parse.specs.Reads.{heads, never, reads_as, among, head_as, Found, Fault, wrong, deep, Within, Opens, Stuck, Stops, Answers, Ends}
use Rattle.sp_parse.specs.Parses.{NotWith, NeedsMore, IsUnexpected, Halts, IsFrom}
use Rattle.sp_parse.proofs.Reading as r
use Rattle.sp_parse.proofs.Reading.{Begins}
use Rattle.sp_parse.proofs.Nested.{Some_of}
use Rattle.sp_parse.proofs.Sequence as q
use Rattle.sp_parse.proofs.Forms as f
use Rattle.sp_parse.proofs.EventClause.{timed_begins}
use Rattle.sp_parse.proofs.PatternClause.{elements_begins, elements_some}
use Rattle.sp_parse.proofs.EndClauses.{within_begins, within_some, policy_begins, policy_some, consume_some}
use Rattle.sp_parse.proofs.Defines.{definitions_begins, opening_some}

abbrev Window : Type 0
Window = ℕ × Word × Span

-- ---- a clause or nothing

abbrev pub begins_time : Token → Bool
begins_time = reads_as (kernel (mark m.Time))

abbrev pub begins_define : Token → Bool
begins_define = reads_as (kernel (mark m.Define))

abbrev pub Time : ℕ → List Token → Option Ident → Type 0
Time = λ _. Optional g.Timed

abbrev pub Defined : ℕ → List Token → Option (List (Ident × Tree)) → Type 0
Defined = λ n. Optional (g.Definitions n)

module _ (room : ℕ) (s : List Token) where
  pub time_found : (a : Ident) (rest : List Token) → is_some (head_as (kernel (mark m.Time)) s) ≡ true → Found (λ _. g.Timed) never room s a rest → Found Time (among begins_time never) room s (Some a) rest
  time_found a rest i x = r.optional_found (λ _. g.Timed) never begins_time room s rest a (r.head_test (kernel (mark m.Time)) s ∙ i) x

  pub time_stops : (e : Stop) → is_some (head_as (kernel (mark m.Time)) s) ≡ true → Stops (λ _. g.Timed) never room s e → Stops Time (among begins_time never) room s e
  time_stops e i h = r.stops_as (λ _. g.Timed) Time never (among begins_time never) room room s s e (λ f rest x. r.optional_stuck (λ _. g.Timed) never begins_time room s rest f (r.head_test (kernel (mark m.Time)) s ∙ i) x) h

  pub no_time : is_some (head_as (kernel (mark m.Time)) s) ≡ false → Found Time (among begins_time never) room s None s
  no_time i = r.optional_none (λ _. g.Timed) never begins_time room (among begins_time never) s timed_begins (r.head_test (kernel (mark m.Time)) s ∙ i)

  pub defined_found : (a : List (Ident × Tree)) (rest : List Token) → is_some (head_as (kernel (mark m.Define)) s) ≡ true → Found g.Definitions after_definitions room s a rest → Found Defined (among begins_define after_definitions) room s (Some a) rest
  defined_found a rest i x = r.optional_found g.Definitions after_definitions begins_define room s rest a (r.head_test (kernel (mark m.Define)) s ∙ i) x

  pub defined_stops : (e : Stop) → is_some (head_as (kernel (mark m.Define)) s) ≡ true → Stops g.Definitions after_definitions room s e → Stops Defined (among begins_define after_definitions) room s e
  defined_stops e i h = r.stops_as g.Definitions Defined after_definitions (among begins_define after_definitions) room room s s e
      (λ f rest x. r.optional_stuck g.Definitions after_definitions begins_define room s rest f (r.head_test (kernel (mark m.Define)) s ∙ i) x) h

  pub none_defined : is_some (head_as (kernel (mark m.Define)) s) ≡ false → Found Defined (among begins_define after_definitions) room s None s
  none_defined i = r.optional_none g.Definitions after_definitions begins_define room (among begins_define after_definitions) s definitions_begins (r.head_test (kernel (mark m.Define)) s ∙ i)

-- ---- the clauses behind each clause

abbrev BehindOpening : ℕ → List Token → Word × QueryConsume → Type 0
BehindOpening = λ n. Both g.Policy g.Consume

abbrev BehindWithin : ℕ → List Token → QueryOpening × (Word × QueryConsume) → Type 0
BehindWithin = λ n. Both (g.Opening n) (BehindOpening n)

abbrev BehindElements : ℕ → List Token → Option (List (Ident × Tree)) × EndingValue → Type 0
BehindElements = λ n. Both (Defined n) (Ending n)

abbrev BehindColumns : ℕ → List Token → Option Ident × BodyValue → Type 0
BehindColumns = λ n. Both (Time n) (Body n)

abbrev Parts : ℕ → List Token → g.Clauses → Type 0
Parts = λ n. Both g.Columns (BehindColumns n)

-- ---- some of each

none_some : {A : Type 0} (L : ℕ → List Token → A → Type 0) → Some_of (λ n. Optional (L n))
none_some L n = ([], None, refl)

behind_opening_some : Some_of BehindOpening
behind_opening_some = f.pair_some (λ _. g.Policy) (λ _. g.Consume) policy_some consume_some

behind_within_some : Some_of BehindWithin
behind_within_some = f.pair_some g.Opening BehindOpening opening_some behind_opening_some

ending_some : Some_of Ending
ending_some = f.pair_some (λ _. g.Within) BehindWithin within_some behind_within_some

behind_elements_some : Some_of BehindElements
behind_elements_some = f.pair_some Defined Ending (none_some g.Definitions) ending_some

body_some : Some_of Body
body_some = f.pair_some (λ _. g.Elements) BehindElements elements_some behind_elements_some

behind_columns_some : Some_of BehindColumns
behind_columns_some = f.pair_some Time Body (none_some (λ _. g.Timed)) body_some

-- ---- none of them begins with what may go on with the clause before it

never_apart : {B : Type 0} (N : ℕ → List Token → B → Type 0) (n : ℕ) (y v : List Token) (b : B) → N n y b → heads never v ≡ false → heads never (y ++ v) ≡ false
never_apart N n y v b d h = r.heads_never (y ++ v)

out_heads : (F C : Token → Bool) → ((t : Token) → F t ≡ true → C t ≡ false) → (y v : List Token) → heads F y ≡ true → heads C (y ++ v) ≡ false
out_heads F C out [] v h = absurd cc
out_heads F C out (t ∷ y) v h = out t h

pattern_out : (x : Kernel) → is_some (mark m.Pattern x) ≡ true → (is_some (mark m.Time x) || false) ≡ false
pattern_out (k.Word w.Pattern) h = refl
pattern_out _ h = absurd cc

time_apart : (n : ℕ) (y v : List Token) (b : BodyValue) → Body n y b → heads never v ≡ false → heads (among begins_time never) (y ++ v) ≡ false
time_apart n y v b d h = out_heads (reads_as (kernel (mark m.Pattern))) (among begins_time never) (λ t. pattern_out t.kernel) y v
    (r.both_begins (reads_as (kernel (mark m.Pattern))) (λ _. g.Elements) BehindElements elements_begins n y b d)

within_out : (x : Kernel) → is_some (mark m.Within x) ≡ true
    → (is_some (mark m.Define x) || (((((is_some (mark m.Dot x) || is_some (times x)) || is_some (plus x)) || is_some (both_hold x)) || is_some (one_holds x)) || is_some (mark m.Comma x))) ≡ false
within_out (k.Word w.Within) h = refl
within_out _ h = absurd cc

defined_apart : (n : ℕ) (y v : List Token) (b : EndingValue) → Ending n y b → heads never v ≡ false → heads (among begins_define after_definitions) (y ++ v) ≡ false
defined_apart n y v b d h = out_heads (reads_as (kernel (mark m.Within))) (among begins_define after_definitions) (λ t. within_out t.kernel) y v
    (r.both_begins (reads_as (kernel (mark m.Within))) (λ _. g.Within) BehindWithin within_begins n y b d)

select_out : (x : Kernel) → is_some (mark m.Select x) ≡ true → ((((is_some (mark m.Dot x) || is_some (times x)) || is_some (plus x)) || is_some (both_hold x)) || is_some (one_holds x)) ≡ false
select_out (k.Word w.Select) h = refl
select_out _ h = absurd cc

opening_apart : (n : ℕ) (y v : List Token) (b : Word × QueryConsume) → BehindOpening n y b → heads never v ≡ false → heads after_pred (y ++ v) ≡ false
opening_apart n y v b d h = out_heads (reads_as (kernel (mark m.Select))) after_pred (λ t. select_out t.kernel) y v
    (r.both_begins (reads_as (kernel (mark m.Select))) (λ _. g.Policy) (λ _. g.Consume) policy_begins n y b d)

-- ---- from WITHIN on

module _ (room : ℕ) (s : List Token) where
  pub within_stops : (x : Stop) → Stops (λ _. g.Within) never room s x → Stops Ending never room s x
  within_stops x h = q.first_stops (λ _. g.Within) BehindWithin never (never_apart BehindWithin) room s behind_within_some x h

  pub opening_stops : (m_ : List Token) (a : Window) (x : Stop) → Found (λ _. g.Within) never room s a m_ → Stops g.Opening after_pred room m_ x → Stops Ending never room s x
  opening_stops m_ a x i h = q.next_stops (λ _. g.Within) BehindWithin never (never_apart BehindWithin) room s m_ a x i (q.first_stops g.Opening BehindOpening after_pred opening_apart room m_ behind_opening_some x h)

  behind_opening_stops : (m_ o : List Token) (a : Window) (b : QueryOpening) (x : Stop) → Found (λ _. g.Within) never room s a m_ → Found g.Opening after_pred room m_ b o → Stops BehindOpening never room o x → Stops Ending never room s x
  behind_opening_stops m_ o a b x i j h = q.next_stops (λ _. g.Within) BehindWithin never (never_apart BehindWithin) room s m_ a x i (q.next_stops g.Opening BehindOpening after_pred opening_apart room m_ o b x j h)

  pub policy_stops : (m_ o : List Token) (a : Window) (b : QueryOpening) (x : Stop) → Found (λ _. g.Within) never room s a m_ → Found g.Opening after_pred room m_ b o → Stops (λ _. g.Policy) never room o x → Stops Ending never room s x
  policy_stops m_ o a b x i j h = behind_opening_stops m_ o a b x i j (q.first_stops (λ _. g.Policy) (λ _. g.Consume) never (never_apart (λ _. g.Consume)) room o consume_some x h)

  pub consume_stops : (m_ o p : List Token) (a : Window) (b : QueryOpening) (c : Word) (x : Stop) → Found (λ _. g.Within) never room s a m_ → Found g.Opening after_pred room m_ b o → Found (λ _. g.Policy) never room o c p
      → Stops (λ _. g.Consume) never room p x → Stops Ending never room s x
  consume_stops m_ o p a b c x i j k_ h = behind_opening_stops m_ o a b x i j (q.next_stops (λ _. g.Policy) (λ _. g.Consume) never (never_apart (λ _. g.Consume)) room o p c x k_ h)

  pub ending_found : (m_ o p rest : List Token) (a : Window) (b : QueryOpening) (c : Word) (d : QueryConsume) → Found (λ _. g.Within) never room s a m_ → Found g.Opening after_pred room m_ b o → Found (λ _. g.Policy) never room o c p
      → Found (λ _. g.Consume) never room p d rest → Found Ending never room s (a, (b, (c, d))) rest
  ending_found m_ o p rest a b c d i j k_ h =
      q.both_found (λ _. g.Within) BehindWithin never (never_apart BehindWithin) room s m_ rest a (b, (c, d)) i
      (q.both_found g.Opening BehindOpening after_pred opening_apart room m_ o rest b (c, d) j
      (q.both_found (λ _. g.Policy) (λ _. g.Consume) never (never_apart (λ _. g.Consume)) room o p rest c d k_ h))

-- ---- from PATTERN on

module _ (room : ℕ) (s : List Token) where
  pub elements_stop : (x : Stop) → Stops (λ _. g.Elements) never room s x → Stops Body never room s x
  elements_stop x h = q.first_stops (λ _. g.Elements) BehindElements never (never_apart BehindElements) room s behind_elements_some x h

  pub defines_stop : (m_ : List Token) (a : List QueryElement) (x : Stop) → Found (λ _. g.Elements) never room s a m_ → Stops Defined (among begins_define after_definitions) room m_ x → Stops Body never room s x
  defines_stop m_ a x i h = q.next_stops (λ _. g.Elements) BehindElements never (never_apart BehindElements) room s m_ a x i
      (q.first_stops Defined Ending (among begins_define after_definitions) defined_apart room m_ ending_some x h)

  pub ending_stops : (m_ o : List Token) (a : List QueryElement) (b : Option (List (Ident × Tree))) (x : Stop) → Found (λ _. g.Elements) never room s a m_ → Found Defined (among begins_define after_definitions) room m_ b o
      → Stops Ending never room o x → Stops Body never room s x
  ending_stops m_ o a b x i j h = q.next_stops (λ _. g.Elements) BehindElements never (never_apart BehindElements) room s m_ a x i
      (q.next_stops Defined Ending (among begins_define after_definitions) defined_apart room m_ o b x j h)

  pub body_found : (m_ o rest : List Token) (a : List QueryElement) (b : Option (List (Ident × Tree))) (c : EndingValue) → Found (λ _. g.Elements) never room s a m_ → Found Defined (among begins_define after_definitions) room m_ b o
      → Found Ending never room o c rest → Found Body never room s (a, (b, c)) rest
  body_found m_ o rest a b c i j h = q.both_found (λ _. g.Elements) BehindElements never (never_apart BehindElements) room s m_ rest a (b, c) i
      (q.both_found Defined Ending (among begins_define after_definitions) defined_apart room m_ o rest b c j h)

-- ---- the whole query

module _ (room : ℕ) (s : List Token) where
  whole_stops : (x : Stop) → Stops Parts never room s x → Stops Derives never room s x
  whole_stops x h = r.stops_as Parts Derives never never room room s s x (λ f rest y. r.built_stuck g.query Parts never room s rest f y) h

  pub columns_stop : (x : Stop) → Stops (λ _. g.Columns) never room s x → Stops Derives never room s x
  columns_stop x h = whole_stops x (q.first_stops (λ _. g.Columns) BehindColumns never (never_apart BehindColumns) room s behind_columns_some x h)

  pub time_stop : (m_ : List Token) (a : List QueryColumn) (x : Stop) → Found (λ _. g.Columns) never room s a m_ → Stops Time (among begins_time never) room m_ x → Stops Derives never room s x
  time_stop m_ a x i h = whole_stops x (q.next_stops (λ _. g.Columns) BehindColumns never (never_apart BehindColumns) room s m_ a x i (q.first_stops Time Body (among begins_time never) time_apart room m_ body_some x h))

  pub body_stops : (m_ o : List Token) (a : List QueryColumn) (b : Option Ident) (x : Stop) → Found (λ _. g.Columns) never room s a m_ → Found Time (among begins_time never) room m_ b o → Stops Body never room o x → Stops Derives never room s x
  body_stops m_ o a b x i j h = whole_stops x (q.next_stops (λ _. g.Columns) BehindColumns never (never_apart BehindColumns) room s m_ a x i (q.next_stops Time Body (among begins_time never) time_apart room m_ o b x j h))

  pub query_found : (m_ o rest : List Token) (a : List QueryColumn) (b : Option Ident) (c : BodyValue) (x : Query) → Found (λ _. g.Columns) never room s a m_ → Found Time (among begins_time never) room m_ b o → Found Body never room o c rest
      → ((front : List Token) → s ≡ front ++ rest → x ≡ g.query front (a, (b, c))) → Found Derives never room s x rest
  query_found m_ o rest a b c x i j h e = r.built_as g.query Parts never room s rest (a, (b, c)) x e
      (q.both_found (λ _. g.Columns) BehindColumns never (never_apart BehindColumns) room s m_ rest a (b, c) i (q.both_found Time Body (among begins_time never) time_apart room m_ o rest b c j h))

-- ---- what the tokens answer

at_end : (l : List Token) → l ≡ l ++ []
at_end l = sym (append-nil l)

with_next : (front : List Token) (t : Token) (more : List Token) → front ++ t ∷ more ≡ ((front ++ t ∷ []) ++ more) ++ []
with_next front t more = sym (append_assoc front (t ∷ []) more) ∙ at_end ((front ++ t ∷ []) ++ more)

stuck_none : (f : Fault) (n : ℕ) (s rest : List Token) → (x : Stuck Derives never 64 s f rest) → Within f 64 n → NotWith n x.front rest
stuck_none f n s [] x w = λ q_ h. x.none n [] x.front [] q_ w h refl refl
stuck_none f n s (t ∷ rest) x w = λ b. x.none n b.0 ((x.front ++ t ∷ []) ++ b.0) [] b.1 w b.2 refl (with_next x.front t b.0)

needs : (front rest : List Token) → Opens deep (Derives 65) front rest → NeedsMore front rest
needs front [] o = absurd cc
needs front (t ∷ rest) o = (65, (o.0, o.1, subst (λ l. Derives 65 l o.1) (sym (append_assoc front (t ∷ []) o.0)) o.3))

longer : (front : List Token) (t : Token) (z : List Token) → (front ++ t ∷ []) ++ z ≡ front → ⊥
longer front t z e = let h : length ((front ++ t ∷ []) ++ z) ≡ length front = ap length e in omega (arith, length-append (front ++ t ∷ []) z, length-append front (t ∷ []))

no_more : (n : ℕ) (s rest : List Token) (q_ : Query) → (x : Found Derives never 64 s q_ rest) → length rest ≢ 0 → NotWith n x.front rest
no_more n s [] q_ x h = absurd (h refl)
no_more n s (t ∷ rest) q_ x h = λ b. longer x.front t b.0 (x.only n b.0 ((x.front ++ t ∷ []) ++ b.0) [] b.1 b.2 refl (with_next x.front t b.0)).0

-- what halts is no query
no_query : (f : Fault) (s rest : List Token) → (x : Stuck Derives never 64 s f rest) → Within f 64 64 → (p : Query) → Derives 64 s p → ⊥
no_query f s rest x w p d =
    let i = r.look_self rest in
    x.none 64 i.0 s [] p w d refl (ap (λ l. x.front ++ l) i.1 ∙ sym x.cut ∙ at_end s)

pub halts : (s : List Token) (e : Stop) → Stops Derives never 64 s e → Halts s e
halts s stop.Memory h = tt
halts s (stop.Unexpected count) h = (h.0, h.1, record { front = h.2.front; cut = h.2.cut; begins = (h.2.more, h.2.value, h.2.begins); none = λ n. stuck_none wrong n s h.0 h.2 tt })
halts s (stop.TooDeep count) h = (h.0, h.1, record { front = h.2.front; cut = h.2.cut; begins = (h.2.more, h.2.value, h.2.begins); none = stuck_none deep 64 s h.0 h.2 refl; more = needs h.2.front h.0 h.2.opens })

-- Tokens behind a query are unexpected.
pub halts_behind : (s rest : List Token) (q_ : Query) → Found Derives never 64 s q_ rest → length rest ≢ 0 → IsUnexpected s rest
halts_behind s rest q_ x h = record { front = x.front; cut = x.cut; begins = ([], q_, subst (λ l. Derives 64 l q_) (at_end x.front) (x.derives 64 (omega arith))); none = λ n. no_more n s rest q_ x h }

pub spells : (s rest : List Token) (q_ : Query) → Found Derives never 64 s q_ rest → length rest ≡ 0 → Derives 64 s q_
spells s [] q_ x h = subst (λ l. Derives 64 l q_) (sym (x.cut ∙ append-nil x.front)) (x.derives 64 (omega arith))
spells s (t ∷ rest) q_ x h = absurd cc

pub only_query : (s rest : List Token) (q_ : Query) → Found Derives never 64 s q_ rest → length rest ≡ 0 → (n : ℕ) (p : Query) → Derives n s p → p ≡ q_
only_query s [] q_ x h n p d = (x.only n [] s [] p d refl (sym x.cut ∙ at_end s)).1
only_query s (t ∷ rest) q_ x h n p d = absurd cc

halted_all : (s : List Token) (e : Stop) → Stops Derives never 64 s e → (p : Query) → Derives 64 s p → e ≡ stop.Memory
halted_all s stop.Memory h p d = refl
halted_all s (stop.Unexpected count) h p d = absurd (no_query wrong s h.0 h.2 tt p d)
halted_all s (stop.TooDeep count) h p d = absurd (no_query deep s h.0 h.2 refl p d)

pub rest_is_none : (s rest : List Token) (q_ : Query) → Found Derives never 64 s q_ rest → length rest ≢ 0 → (p : Query) → Derives 64 s p → ⊥
rest_is_none s rest q_ x h p d =
    let i = r.look_self rest in
    let j = x.only 64 i.0 s [] p d refl (ap (λ l. x.front ++ l) i.1 ∙ sym x.cut ∙ at_end s) in
    let k_ : length s ≡ length x.front = ap length j.0 in
    h (omega (arith, ap length x.cut, length-append x.front rest))

module _ (s : List Token) (read : Result (Query × Bor (List Token)) Stop) (a : Answers Derives never 64 s (λ p. (p.0, p.1.now)) read) where
  read_all : (q_ : Query) (rest : Bor (List Token)) → read ≡ Ok (q_, rest) → Found Derives never 64 s q_ rest.now
  read_all q_ rest e = r.read_found Derives never 64 s read q_ rest a e

  pub ends_found : (y : Result Query Stop) → Ends read y → IfOk y (λ query. Derives 64 s query)
  ends_found (Ok q_) h = spells s h.0.now q_ (read_all q_ h.0 h.1) h.2
  ends_found (Err x) h = tt

  pub ends_only : (y : Result Query Stop) → Ends read y → IfOk y (λ answer. (levels : ℕ) (query : Query) → Derives levels s query → query ≡ answer)
  ends_only (Ok q_) h = only_query s h.0.now q_ (read_all q_ h.0 h.1) h.2
  ends_only (Err x) h = tt

  pub ends_all : (y : Result Query Stop) → Ends read y → (query : Query) → Derives 64 s query → IsFrom query y
  ends_all (Ok q_) h query d = only_query s h.0.now q_ (read_all q_ h.0 h.1) h.2 64 query d
  ends_all (Err x) h query d = elim h as (λ _. x ≡ stop.Memory) [
    | inl g ↦ halted_all s x (r.read_stops Derives never 64 s read x a g) query d
    | inr g ↦ absurd (rest_is_none s g.1.now g.0 (read_all g.0 g.1 g.2) g.3 query d)
  ]

  pub ends_halts : (y : Result Query Stop) → Ends read y → IfErr y (λ x. Halts s x)
  ends_halts (Ok q_) h = tt
  ends_halts (Err x) h = elim h as (λ _. Halts s x) [
    | inl g ↦ halts s x (r.read_stops Derives never 64 s read x a g)
    | inr g ↦ subst (λ y. Halts s y) (sym g.4) (g.1.now, refl, halts_behind s g.1.now g.0 (read_all g.0 g.1 g.2) g.3)
  ]

absurd_of : (b : Bool) → b ≡ (0 == 0) → b ≡ false → ⊥
absurd_of b e h = grind (arith, nat_tests)

pub not_none : (b : Bool) (s : List Token) → b ≡ (length s == 0) → b ≡ false → length s ≢ 0
not_none b [] e h = absurd (absurd_of b e h)
not_none b (t ∷ s) e h = λ i. absurd (omega arith)

pub is_none : (b : Bool) (s : List Token) → b ≡ (length s == 0) → b ≡ true → length s ≡ 0
is_none b [] e h = refl
is_none b (t ∷ s) e h = grind (arith, nat_tests)
