-- The pattern.
use Rattle.std.proofs.Common.{◌≡◌, ◌<◌, ◌++◌, ◌||◌, ℕ, Bool, true, false, List, [], ◌∷◌, length, Option, Some, None, is_some, Result, refl, ◌∙◌, ap}
use Rattle.sp_lex.specs.declared.token.Token.{Token}
use Rattle.sp_lex.specs.declared.token.Span.{Span}
use Rattle.sp_lex.specs.declared.token.Kernel.{Kernel}
use Rattle.sp_lex.specs.declared.token.Kernel.TheVariants as k
use Rattle.sp_lex.specs.declared.token.Word.TheVariants as w
use Rattle.sp_query.specs.declared.mark.Mark.TheVariants as m
use Rattle.sp_query.specs.declared.query.Ident.{Ident}
use Rattle.sp_query.specs.declared.query.QueryElement.{QueryElement}
use Rattle.sp_query.specs.declared.query.QueryElement.TheVariants as e
use Rattle.sp_query.specs.Phrase.{One, Both, Either, Built, Optional}
use Rattle.sp_query.specs.Grammar.{span, kernel, mark, name, After, Between, Alone, MoreOf, Name, single, Single, Names, Several, Negated, Element, Elements}
use Rattle.sp_parse.specs.declared.stop.Stop.{Stop}
use Rattle.sp_parse.specs.Follow.{element_head}
use Rattle.sp_parse.specs.Reads.{heads, never, reads_as, among, head_as, Found, Stops, TakesNone, Answers}
use Rattle.sp_parse.proofs.Reading as r
use Rattle.sp_parse.proofs.Reading.{Begins}
use Rattle.sp_parse.proofs.Marks as one
use Rattle.sp_parse.proofs.Marks.{IsOne, other}
use Rattle.sp_parse.proofs.Nested.{Some_of}
use Rattle.sp_parse.proofs.Forms as f
use Rattle.sp_parse.proofs.Forms.{Rowing}
use Rattle.sp_parse.proofs.EventClause.{name_begins, name_some}

-- ---- a name, with its sign or without

-- a plus, behind a name
abbrev pub after_single : Token → Bool
after_single = reads_as (kernel (mark m.Plus))

abbrev Sign : ℕ → List Token → Unit {0} → Type 0
Sign = λ _. One (kernel (mark m.Plus))

abbrev Ends : ℕ → List Token → Option (Unit {0}) → Type 0
Ends = λ _. Optional (One (kernel (mark m.Plus)))

abbrev Parts : ℕ → List Token → Ident × Option (Unit {0}) → Type 0
Parts = λ _. Both Name (Optional (One (kernel (mark m.Plus))))

parts_begin : Begins (reads_as (kernel name)) Parts
parts_begin = r.both_begins (reads_as (kernel name)) (λ _. Name) Ends name_begins

pub single_begins : Begins (reads_as (kernel name)) (λ _. Single)
single_begins = r.built_begins single (reads_as (kernel name)) Parts parts_begin

ends_some : Some_of Ends
ends_some n = ([], None, refl)

single_some : Some_of (λ _. Single)
single_some = f.built_some single Parts (f.pair_some (λ _. Name) Ends name_some ends_some)

pub within : (v : List Token) → heads after_single v ≡ false → heads (among after_single never) v ≡ false
within v h = r.among_neither after_single never v h (r.heads_never v)

sign_heads : (m_ rest : List Token) → IsOne (mark m.Plus) m_ tt rest → heads after_single m_ ≡ true
sign_heads m_ rest i = ap (heads after_single) i.1 ∙ ap (λ x. is_some x) i.2

module _ (room : ℕ) (s : List Token) where
  pub single_stops : (x : Stop) → Stops (λ _. Name) never room s x → Stops (λ _. Single) after_single room s x
  single_stops x h = f.built_stops single Parts after_single room s x (f.pair_first_stops (λ _. Name) Ends after_single room s ends_some x h)

  pub single_alone : (m_ : List Token) (a : Ident) → Found (λ _. Name) never room s a m_ → head_as (kernel (mark m.Plus)) m_ ≡ None → Found (λ _. Single) after_single room s (e.One a) m_
  single_alone m_ a i out = r.built_as single Parts after_single room s m_ (a, None) (e.One a) (λ front cut. refl)
      (f.pair_found (λ _. Name) Ends after_single room s m_ m_ a None i
      (r.optional_none Sign never after_single room after_single m_ (r.one_begins (kernel (mark m.Plus))) (r.head_none (kernel (mark m.Plus)) m_ out)))

  signed : (m_ rest : List Token) (a : Ident) → Found (λ _. Name) never room s a m_ → IsOne (mark m.Plus) m_ tt rest → Found Parts (among after_single never) room s (a, Some tt) rest
  signed m_ rest a i j = f.pair_found (λ _. Name) Ends (among after_single never) room s m_ rest a (Some tt) i
      (r.optional_found Sign never after_single room m_ rest tt (sign_heads m_ rest j) (one.one_found (mark m.Plus) room m_ rest tt j))

  pub single_signed : (m_ rest : List Token) (a : Ident) (at : Span) → Found (λ _. Name) never room s a m_ → IsOne (mark m.Plus) m_ tt rest → ((front : List Token) → s ≡ front ++ rest → at ≡ span front)
      → Found (λ _. Single) after_single room s (e.Plus a at) rest
  single_signed m_ rest a at i j value = r.found_within (λ _. Single) (among after_single never) after_single room s rest (e.Plus a at) within
      (r.built_as single Parts (among after_single never) room s rest (a, Some tt) (e.Plus a at) (λ front cut. ap (e.Plus a) (value front cut)) (signed m_ rest a i j))

  pub single_shorter : (m_ rest : List Token) (a : Ident) → Found (λ _. Name) never room s a m_ → IsOne (mark m.Plus) m_ tt rest → length rest < length s
  single_shorter m_ rest a i j = r.found_shorter Parts (among after_single never) (reads_as (kernel name)) room s rest (a, Some tt) parts_begin (signed m_ rest a i j)

-- ---- two names or more

abbrev two_of : List Token → Ident × Ident → List Ident
two_of tokens p = p.0 ∷ p.1 ∷ []

abbrev Two : ℕ → List Token → List Ident → Type 0
Two = λ _. Built two_of (Both Name Name)

abbrev pub after_names : Token → Bool
after_names = among never (reads_as (kernel name))

-- what the loop over names keeps
abbrev pub Naming : ℕ → List Token → List Ident → List Token → Type 0
Naming room s xs rest = Rowing Two (λ _. Name) never (reads_as (kernel name)) room s xs rest

pub names_apart : (t : Token) → reads_as (kernel name) t ≡ true → never t ≡ false
names_apart t h = refl

pub names_some : Some_of (λ _. Names)
names_some = f.more_some Two (λ _. Name) (f.built_some two_of (λ _. Both Name Name) (f.pair_some (λ _. Name) (λ _. Name) name_some name_some))

round_no_name : (x : Kernel) → is_some (mark m.RightRound x) ≡ true → is_some (name x) ≡ false
round_no_name k.RightRound h = refl
round_no_name _ h = absurd cc

pub names_out : (t : Token) → is_some (mark m.RightRound t.kernel) ≡ true → after_names t ≡ false
names_out t h = round_no_name t.kernel h

module _ (room : ℕ) (s : List Token) where
  two_stop : (x : Stop) → Stops (λ _. Both Name Name) never room s x → Stops (λ _. Names) after_names room s x
  two_stop x h = f.more_first_stops Two (λ _. Name) never (reads_as (kernel name)) name_begins names_apart room s x (f.built_stops two_of (λ _. Both Name Name) never room s x h)

  pub names_first_stops : (x : Stop) → Stops (λ _. Name) never room s x → Stops (λ _. Names) after_names room s x
  names_first_stops x h = two_stop x (f.pair_first_stops (λ _. Name) (λ _. Name) never room s name_some x h)

  pub names_second_stops : (m_ : List Token) (a : Ident) (x : Stop) → Found (λ _. Name) never room s a m_ → Stops (λ _. Name) never room m_ x → Stops (λ _. Names) after_names room s x
  names_second_stops m_ a x i h = two_stop x (f.pair_second_stops (λ _. Name) (λ _. Name) never room s m_ a x i h)

  pub names_set_out : (m_ rest : List Token) (a b : Ident) (none first xs : List Ident) → none ≡ [] → first ≡ none ++ a ∷ [] → xs ≡ first ++ b ∷ []
      → Found (λ _. Name) never room s a m_ → Found (λ _. Name) never room m_ b rest → Naming room s xs rest
  names_set_out m_ rest a b none first xs is one two i h = f.more_sets_out Two (λ _. Name) never (reads_as (kernel name)) name_begins names_apart room s rest xs
      (r.built_as two_of (λ _. Both Name Name) never room s rest (a, b) xs (λ front cut. two ∙ ap (λ l. l ++ b ∷ []) (one ∙ ap (λ l. l ++ a ∷ []) is))
      (f.pair_found (λ _. Name) (λ _. Name) never room s m_ rest a b i h))

  pub names_next_stops : (m_ : List Token) (xs : List Ident) (x : Stop) → is_some (head_as (kernel name) m_) ≡ true → Naming room s xs m_ → Stops (λ _. Name) never room m_ x → Stops (λ _. Names) after_names room s x
  names_next_stops m_ xs x is g h = f.more_next_stops Two (λ _. Name) never (reads_as (kernel name)) name_begins names_apart room s m_ xs x (r.head_test (kernel name) m_ ∙ is) g h

  pub names_go_on : (m_ rest : List Token) (xs ys : List Ident) (x : Ident) → ys ≡ xs ++ x ∷ [] → is_some (head_as (kernel name) m_) ≡ true → Naming room s xs m_ → Found (λ _. Name) never room m_ x rest
      → Naming room s ys rest
  names_go_on m_ rest xs ys x value is g h = f.more_goes_on Two (λ _. Name) never (reads_as (kernel name)) name_begins names_apart room s m_ rest xs ys x value (r.head_test (kernel name) m_ ∙ is) g h

  pub names_arrive : (m_ : List Token) (xs : List Ident) → is_some (head_as (kernel name) m_) ≡ false → Naming room s xs m_ → Found (λ _. Names) after_names room s xs m_
  names_arrive m_ xs out g = f.more_arrives Two (λ _. Name) never (reads_as (kernel name)) name_begins names_apart room s m_ xs (r.head_test (kernel name) m_ ∙ out) g

  pub name_shorter : (rest : List Token) (x : Ident) → Found (λ _. Name) never room s x rest → length rest < length s
  name_shorter rest x h = r.found_shorter (λ _. Name) never (reads_as (kernel name)) room s rest x name_begins h

-- ---- an element

abbrev pub SetOf : ℕ → List Token → List Ident → Type 0
SetOf = λ _. After m.Set (Between m.LeftRound Names m.RightRound)

abbrev set_of : List Token → List Ident → QueryElement
set_of tokens names = e.Set names

abbrev pub InSet : ℕ → List Token → QueryElement → Type 0
InSet = λ _. Several

pub set_begins : Begins (reads_as (kernel (mark m.Set))) InSet
set_begins = r.built_begins set_of (reads_as (kernel (mark m.Set))) SetOf (f.clause_begins m.Set (λ _. Names) after_names names_some names_out)

-- ---- a negated name

abbrev Denied : ℕ → List Token → Ident → Type 0
Denied = λ _. After m.Bang Name

abbrev never_of : List Token → Ident → QueryElement
never_of tokens x = e.Never x (span tokens)

pub negated_begins : Begins (reads_as (kernel (mark m.Bang))) (λ _. Negated)
negated_begins = r.built_begins never_of (reads_as (kernel (mark m.Bang))) Denied (f.after_begins m.Bang (λ _. Name) never name_some)

module _ (room : ℕ) (s : List Token) where
  pub negated_mark_stops : (x : Stop) → TakesNone (kernel (mark m.Bang)) s x → Stops (λ _. Negated) never room s x
  negated_mark_stops x h = f.built_stops never_of Denied never room s x (f.after_mark_stops m.Bang (λ _. Name) never name_some room s x h)

  pub negated_name_stops : (m_ : List Token) (x : Stop) → IsOne (mark m.Bang) s tt m_ → Stops (λ _. Name) never room m_ x → Stops (λ _. Negated) never room s x
  negated_name_stops m_ x i h = f.built_stops never_of Denied never room s x (f.after_stops m.Bang (λ _. Name) never name_some room s m_ x i h)

  denied : (m_ rest : List Token) (a : Ident) → IsOne (mark m.Bang) s tt m_ → Found (λ _. Name) never room m_ a rest → Found Denied never room s a rest
  denied m_ rest a i h = f.after_found m.Bang (λ _. Name) never name_some room s m_ rest a i h

  pub negated_shorter : (m_ rest : List Token) (a : Ident) → IsOne (mark m.Bang) s tt m_ → Found (λ _. Name) never room m_ a rest → length rest < length s
  negated_shorter m_ rest a i h = r.found_shorter Denied never (reads_as (kernel (mark m.Bang))) room s rest a (f.after_begins m.Bang (λ _. Name) never name_some) (denied m_ rest a i h)

  pub negated_found : (m_ rest : List Token) (a : Ident) (at : Span) → IsOne (mark m.Bang) s tt m_ → Found (λ _. Name) never room m_ a rest → ((front : List Token) → s ≡ front ++ rest → at ≡ span front)
      → Found (λ _. Negated) never room s (e.Never a at) rest
  negated_found m_ rest a at i h value = r.built_as never_of Denied never room s rest a (e.Never a at) (λ front cut. ap (e.Never a) (value front cut)) (denied m_ rest a i h)

-- ---- an element

-- what an element is that is no name alone
abbrev Marked : ℕ → List Token → QueryElement → Type 0
Marked = λ _. Either Several Negated

-- SET or the mark of a negated name
abbrev pub marked_head : Token → Bool
marked_head = among (reads_as (kernel (mark m.Set))) (reads_as (kernel (mark m.Bang)))

pub marked_begins : Begins marked_head Marked
marked_begins = r.either_begins (reads_as (kernel (mark m.Set))) (reads_as (kernel (mark m.Bang))) InSet (λ _. Negated) set_begins negated_begins

pub element_begins : Begins element_head (λ _. Element)
element_begins = r.either_begins (reads_as (kernel name)) marked_head (λ _. Single) Marked single_begins marked_begins

pub element_some : Some_of (λ _. Element)
element_some = f.left_some (λ _. Single) Marked single_some

pub set_no_name : (x : Kernel) → is_some (mark m.Set x) ≡ true → is_some (name x) ≡ false
set_no_name (k.Word w.Set) h = refl
set_no_name _ h = absurd cc

bang_no_name : (x : Kernel) → is_some (mark m.Bang x) ≡ true → is_some (name x) ≡ false
bang_no_name k.Bang h = refl
bang_no_name _ h = absurd cc

pub set_no_bang : (x : Kernel) → is_some (mark m.Set x) ≡ true → is_some (mark m.Bang x) ≡ false
set_no_bang (k.Word w.Set) h = refl
set_no_bang _ h = absurd cc

bang_no_set : (x : Kernel) → is_some (mark m.Bang x) ≡ true → is_some (mark m.Set x) ≡ false
bang_no_set k.Bang h = refl
bang_no_set _ h = absurd cc

pub marked_no_name : (x : Kernel) → (is_some (mark m.Set x) || is_some (mark m.Bang x)) ≡ true → is_some (name x) ≡ false
marked_no_name (k.Name text) h = absurd cc
marked_no_name _ h = refl

module _ (room : ℕ) (s : List Token) where
  -- behind SET
  pub element_set_stops : (x : Stop) → is_some (head_as (kernel (mark m.Set)) s) ≡ true → Stops SetOf never room s x → Stops (λ _. Element) after_single room s x
  element_set_stops x is h = f.right_stops (λ _. Single) Marked after_single (reads_as (kernel name)) room s x single_begins (other (mark m.Set) name set_no_name s is)
      (f.left_stops InSet (λ _. Negated) after_single (reads_as (kernel (mark m.Bang))) room s x negated_begins (other (mark m.Set) (mark m.Bang) set_no_bang s is)
      (f.within_stops InSet never after_single (λ v _. r.heads_never v) room s x (f.built_stops set_of SetOf never room s x h)))

  pub element_set_found : (rest : List Token) (names : List Ident) → is_some (head_as (kernel (mark m.Set)) s) ≡ true → Found SetOf never room s names rest → Found (λ _. Element) after_single room s (e.Set names) rest
  element_set_found rest names is h = r.right_found (λ _. Single) Marked after_single (reads_as (kernel name)) room s rest (e.Set names) single_begins (other (mark m.Set) name set_no_name s is)
      (r.left_found InSet (λ _. Negated) after_single (reads_as (kernel (mark m.Bang))) room s rest (e.Set names) negated_begins (other (mark m.Set) (mark m.Bang) set_no_bang s is)
      (r.found_within InSet never after_single room s rest (e.Set names) (λ v _. r.heads_never v)
      (r.built_as set_of SetOf never room s rest names (e.Set names) (λ front cut. refl) h)))

  -- behind the mark of a negated name
  pub element_negated : {Y : Type 0} (view : Y → QueryElement × List Token) (y : Result Y Stop) → is_some (head_as (kernel (mark m.Bang)) s) ≡ true → Answers (λ _. Negated) never room s view y
      → Answers (λ _. Element) after_single room s view y
  element_negated view y is h = f.right_answers (λ _. Single) Marked after_single (reads_as (kernel name)) room s view y single_begins (other (mark m.Bang) name bang_no_name s is)
      (f.right_answers InSet (λ _. Negated) after_single (reads_as (kernel (mark m.Set))) room s view y set_begins (other (mark m.Bang) (mark m.Set) bang_no_set s is)
      (f.within_answers (λ _. Negated) never after_single (λ v _. r.heads_never v) room s view y h))

  -- a name
  pub element_single : {Y : Type 0} (view : Y → QueryElement × List Token) (y : Result Y Stop) → is_some (head_as (kernel (mark m.Set)) s) ≡ false → is_some (head_as (kernel (mark m.Bang)) s) ≡ false
      → Answers (λ _. Single) after_single room s view y → Answers (λ _. Element) after_single room s view y
  element_single view y set bang h = f.left_answers (λ _. Single) Marked after_single marked_head room s view y marked_begins
      (r.among_neither (reads_as (kernel (mark m.Set))) (reads_as (kernel (mark m.Bang))) s (r.head_test (kernel (mark m.Set)) s ∙ set) (r.head_test (kernel (mark m.Bang)) s ∙ bang)) h

  pub element_shorter : (rest : List Token) (x : QueryElement) → Found (λ _. Element) after_single room s x rest → length rest < length s
  element_shorter rest x h = r.found_shorter (λ _. Element) after_single element_head room s rest x element_begins h

-- whether an element is first
pub tests_element : (s : List Token) (a b c : Bool) → a ≡ is_some (head_as (kernel name) s) → b ≡ is_some (head_as (kernel (mark m.Set)) s) → c ≡ is_some (head_as (kernel (mark m.Bang)) s) → (a || (b || c)) ≡ heads element_head s
tests_element [] a b c h i j = λ t. (h t || (i t || j t))
tests_element (t ∷ s) a b c h i j = λ t. (h t || (i t || j t))

-- ---- elements with nothing between them

abbrev pub after_row : Token → Bool
after_row = among after_single element_head

-- what the loop over elements keeps
abbrev pub Elementing : ℕ → List Token → List QueryElement → List Token → Type 0
Elementing room s xs rest = Rowing (λ _. Alone Element) (λ _. Element) after_single element_head room s xs rest

no_plus : (x : Kernel) → (is_some (name x) || (is_some (mark m.Set x) || is_some (mark m.Bang x))) ≡ true → is_some (mark m.Plus x) ≡ false
no_plus k.Plus h = absurd cc
no_plus _ h = refl

pub row_apart : (t : Token) → element_head t ≡ true → after_single t ≡ false
row_apart t h = no_plus t.kernel h

round_no_element : (x : Kernel) → is_some (mark m.RightRound x) ≡ true → (is_some (mark m.Plus x) || (is_some (name x) || (is_some (mark m.Set x) || is_some (mark m.Bang x)))) ≡ false
round_no_element k.RightRound h = refl
round_no_element _ h = absurd cc

pub row_out : (t : Token) → is_some (mark m.RightRound t.kernel) ≡ true → after_row t ≡ false
row_out t h = round_no_element t.kernel h

pub row_some : Some_of (λ _. MoreOf (Alone Element) Element)
row_some = f.more_some (λ _. Alone Element) (λ _. Element) (f.alone_some (λ _. Element) element_some)

module _ (room : ℕ) (s : List Token) where
  pub row_first_stops : (x : Stop) → Stops (λ _. Element) after_single room s x → Stops (λ _. MoreOf (Alone Element) Element) after_row room s x
  row_first_stops x h = f.more_first_stops (λ _. Alone Element) (λ _. Element) after_single element_head element_begins row_apart room s x (f.alone_stops (λ _. Element) after_single room s x h)

  pub row_sets_out : (rest : List Token) (x : QueryElement) (none xs : List QueryElement) → none ≡ [] → xs ≡ none ++ x ∷ [] → Found (λ _. Element) after_single room s x rest → Elementing room s xs rest
  row_sets_out rest x none xs is value h = f.more_sets_out (λ _. Alone Element) (λ _. Element) after_single element_head element_begins row_apart room s rest xs
      (f.alone_found (λ _. Element) after_single room s rest x none xs is value h)

-- ---- the clause

pub elements_begins : Begins (reads_as (kernel (mark m.Pattern))) (λ _. Elements)
elements_begins = f.clause_begins m.Pattern (λ _. MoreOf (Alone Element) Element) after_row row_some row_out

pub elements_some : Some_of (λ _. Elements)
elements_some = f.clause_some m.Pattern (λ _. MoreOf (Alone Element) Element) after_row row_some row_out
