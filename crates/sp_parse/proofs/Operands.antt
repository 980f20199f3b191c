-- Operands.
use Rattle.std.proofs.Common.{◌≡◌, ◌++◌, ◌<◌, ℕ, Bool, true, false, List, [], length, Option, Some, None, is_some, Result, Ok, Err, Bor, refl, ◌∙◌}
use Rattle.sp_lex.specs.declared.token.Token.{Token}
use Rattle.sp_lex.specs.declared.token.Kernel.{Kernel}
use Rattle.sp_lex.specs.declared.token.Kernel.TheVariants as k
use Rattle.sp_query.specs.declared.mark.Mark.TheVariants as m
use Rattle.sp_query.specs.declared.tree.Tree.{Tree}
use Rattle.sp_query.specs.declared.tree.Node.{Node}
use Rattle.sp_query.specs.declared.tree.Node.TheVariants as n
use Rattle.sp_query.specs.Phrase.{One, Both, Optional}
use Rattle.sp_query.specs.Grammar.{tree, kernel, mark, constant, name, named, Constant, Dotted, Named, Operand}
use Rattle.sp_parse.specs.declared.stop.Stop.{Stop}
use Rattle.sp_parse.specs.Follow.{after_factor}
use Rattle.sp_parse.specs.Reads.{heads, never, reads_as, among, Found, Stops, Answers, Takes, TakesNone, head_as}
use Rattle.sp_parse.proofs.Reading as r
use Rattle.sp_parse.proofs.Reading.{Begins}
use Rattle.sp_parse.proofs.Marks.{sample, name_stops, some_one, one_found, IsOne, other}
use Rattle.sp_parse.proofs.Nested as d
use Rattle.sp_parse.proofs.Nested.{Some_of}

-- ---- whole | decimal | literal

abbrev constant_tree : List Token → Node → Tree
constant_tree tokens x = tree x [] tokens

module _ (room : ℕ) (s : List Token) where
  pub constant_stops : (e : Stop) → TakesNone (kernel constant) s e → Stops (λ _. Constant) never room s e
  constant_stops e h = r.stops_as (λ _. One (kernel constant)) (λ _. Constant) never never room room s s e
      (λ f rest x. r.built_stuck constant_tree (λ _. One (kernel constant)) never room s rest f x)
      (r.untaken_stops (kernel constant) (sample (k.Whole 0)) (n.Whole 0) refl room s e h)

  pub constant_found : (rest : List Token) (x : Node) (t : Tree) → IsOne constant s x rest → ((front : List Token) → s ≡ front ++ rest → t ≡ tree x [] front) → Found (λ _. Constant) never room s t rest
  constant_found rest x t h e = r.built_as constant_tree (λ _. One (kernel constant)) never room s rest x t e (one_found constant room s rest x h)

pub constant_begins : Begins (reads_as (kernel constant)) (λ _. Constant)
constant_begins = r.built_begins constant_tree (reads_as (kernel constant)) (λ _. One (kernel constant)) (r.one_begins (kernel constant))

-- ---- "." name

some_name : Some_of (λ _. One (kernel name))
some_name = some_one name (k.Name []) [] refl

abbrev second : List Token → Unit {0} × List ℕ → List ℕ
second tokens p = p.1

pub dotted_begins : Begins (reads_as (kernel (mark m.Dot))) (λ _. Dotted)
dotted_begins = d.prefix_begins m.Dot (λ _. One (kernel name)) never some_name second

module _ (room : ℕ) (s : List Token) where
  pub dot_stops : (e : Stop) → TakesNone (kernel (mark m.Dot)) s e → Stops (λ _. Dotted) never room s e
  dot_stops = d.prefix_stops m.Dot (λ _. One (kernel name)) never some_name second room s

  pub name_answers : (rest : List Token) (y : Result (List ℕ × Bor (List Token)) Stop) → IsOne (mark m.Dot) s tt rest → Takes (kernel name) rest (λ p. (p.0, p.1.now)) y
      → Answers (λ _. Dotted) never room s (λ (p : List ℕ × Bor (List Token)). (p.0, p.1.now)) y
  name_answers rest (Ok p) i h = d.prefix_found m.Dot (λ _. One (kernel name)) never some_name second room s rest p.1.now p.0 p.0 i (one_found name room rest p.1.now p.0 h) (λ front e. refl)
  name_answers rest (Err e) i h = d.prefix_stops_later m.Dot (λ _. One (kernel name)) never some_name second room s rest e i (name_stops room rest e h)

-- ---- name [ "." name ]

abbrev Ends : ℕ → List Token → Option (List ℕ) → Type 0
Ends = λ _. Optional Dotted

abbrev Pair : ℕ → List Token → List ℕ × Option (List ℕ) → Type 0
Pair = λ _. Both (One (kernel name)) (Optional Dotted)

ends_apart : (C : Token → Bool) (n : ℕ) (y v : List Token) (b : Option (List ℕ)) → Ends n y b → heads C v ≡ false → heads never (y ++ v) ≡ false
ends_apart C n y v b d h = r.heads_never (y ++ v)

pub within : (v : List Token) → heads after_factor v ≡ false → heads (among after_factor never) v ≡ false
within v h = r.among_neither after_factor never v h (r.heads_never v)

module _ (room : ℕ) (s : List Token) where
  pub named_stops : (e : Stop) → TakesNone (kernel name) s e → Stops (λ _. Named) after_factor room s e
  named_stops e h = r.stops_as (λ _. One (kernel name)) (λ _. Named) never after_factor room room s s e
      (λ f rest x. r.built_stuck named Pair after_factor room s rest f (r.both_stuck_left (λ _. One (kernel name)) Ends never after_factor room (ends_apart after_factor) s rest f (λ n. ([], None, refl)) x))
      (name_stops room s e h)

  pub named_alone : (rest : List Token) (x : List ℕ) (t : Tree) → IsOne name s x rest → is_some (head_as (kernel (mark m.Dot)) rest) ≡ false
      → ((front : List Token) → s ≡ front ++ rest → t ≡ named front (x, None)) → Found (λ _. Named) after_factor room s t rest
  named_alone rest x t h out e = r.built_as named Pair after_factor room s rest (x, None) t e
      (r.both_found (λ _. One (kernel name)) Ends never after_factor room (ends_apart after_factor) s rest rest x None (one_found name room s rest x h)
      (r.optional_none (λ _. Dotted) never after_factor room after_factor rest dotted_begins (r.head_test (kernel (mark m.Dot)) rest ∙ out)))

  pub named_stops_later : (m_ : List Token) (x : List ℕ) (e : Stop) → IsOne name s x m_ → is_some (head_as (kernel (mark m.Dot)) m_) ≡ true → Stops (λ _. Dotted) never room m_ e
      → Stops (λ _. Named) after_factor room s e
  named_stops_later m_ x e h is d = r.stops_as (λ _. Dotted) (λ _. Named) never after_factor room room m_ s e
      (λ f rest y. r.stuck_within (λ _. Named) (among after_factor never) after_factor room s rest f within
      (r.built_stuck named Pair (among after_factor never) room s rest f
      (r.both_stuck_right (λ _. One (kernel name)) Ends never (among after_factor never) room (ends_apart (among after_factor never)) s m_ rest x f (one_found name room s m_ x h)
      (r.optional_stuck (λ _. Dotted) never after_factor room m_ rest f (r.head_test (kernel (mark m.Dot)) m_ ∙ is) y))))
      d

  pub named_found : (m_ rest : List Token) (x p : List ℕ) (t : Tree) → IsOne name s x m_ → is_some (head_as (kernel (mark m.Dot)) m_) ≡ true → Found (λ _. Dotted) never room m_ p rest
      → ((front : List Token) → s ≡ front ++ rest → t ≡ named front (x, Some p)) → Found (λ _. Named) after_factor room s t rest
  named_found m_ rest x p t h is d e = r.found_within (λ _. Named) (among after_factor never) after_factor room s rest t within
      (r.built_as named Pair (among after_factor never) room s rest (x, Some p) t e
      (r.both_found (λ _. One (kernel name)) Ends never (among after_factor never) room (ends_apart (among after_factor never)) s m_ rest x (Some p) (one_found name room s m_ x h)
      (r.optional_found (λ _. Dotted) never after_factor room m_ rest p (r.head_test (kernel (mark m.Dot)) m_ ∙ is) d)))

  pub two_shorter : (m_ rest : List Token) (x p : List ℕ) → IsOne name s x m_ → Found (λ _. Dotted) never room m_ p rest → length rest < length s
  two_shorter m_ rest x p h d = r.shorter_still s m_ rest h.0 h.1 (r.found_shorter (λ _. Dotted) never after_factor room m_ rest p dotted_begins d)

pub named_begins : Begins (reads_as (kernel name)) (λ _. Named)
named_begins = r.built_begins named (reads_as (kernel name)) Pair (r.both_begins (reads_as (kernel name)) (λ _. One (kernel name)) Ends (r.one_begins (kernel name)))

-- ---- which of them

pub name_no_constant : (x : Kernel) → is_some (name x) ≡ true → is_some (constant x) ≡ false
name_no_constant (k.Name t) h = refl
name_no_constant _ h = absurd cc

abbrev pub operand_head : Token → Bool
operand_head = among (reads_as (kernel constant)) (reads_as (kernel name))

pub operand_begins : Begins operand_head (λ _. Operand)
operand_begins = r.either_begins (reads_as (kernel constant)) (reads_as (kernel name)) (λ _. Constant) (λ _. Named) constant_begins named_begins

module _ {Y : Type 0} (room : ℕ) (s : List Token) (view : Y → Tree × List Token) (y : Result Y Stop) where
  pub operand_named : is_some (head_as (kernel name) s) ≡ true → Answers (λ _. Named) after_factor room s view y → Answers (λ _. Operand) after_factor room s view y
  operand_named is h = r.answers_as (λ _. Named) (λ _. Operand) after_factor after_factor room room s s view y
      (λ rest a x. r.right_found (λ _. Constant) (λ _. Named) after_factor (reads_as (kernel constant)) room s rest a constant_begins (other name constant name_no_constant s is) x)
      (λ f rest x. r.right_stuck (λ _. Constant) (λ _. Named) after_factor (reads_as (kernel constant)) room s rest f constant_begins (other name constant name_no_constant s is) x)
      h

  pub operand_constant : is_some (head_as (kernel name) s) ≡ false → Answers (λ _. Constant) never room s view y → Answers (λ _. Operand) after_factor room s view y
  operand_constant out h = r.answers_as (λ _. Constant) (λ _. Operand) never after_factor room room s s view y
      (λ rest a x. r.left_found (λ _. Constant) (λ _. Named) after_factor (reads_as (kernel name)) room s rest a named_begins (r.head_test (kernel name) s ∙ out)
      (r.found_within (λ _. Constant) never after_factor room s rest a (λ v _. r.heads_never v) x))
      (λ f rest x. r.left_stuck (λ _. Constant) (λ _. Named) after_factor (reads_as (kernel name)) room s rest f named_begins (r.head_test (kernel name) s ∙ out)
      (r.stuck_within (λ _. Constant) never after_factor room s rest f (λ v _. r.heads_never v) x))
      h
