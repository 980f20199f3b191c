-- Tests, atoms and predicates.
use Rattle.std.proofs.Common.{◌≡◌, ◌≢◌, ◌++◌, ◌-◌, ℕ, zero, suc, Bool, true, false, List, [], ◌∷◌, ◌<◌, ◌≤◌, length, length-append, arith, Some, is_some, Result, Ok, Err, IfOk, Bor, refl, ap, subst}
use Rattle.sp_lex.specs.declared.token.Token.{Token}
use Rattle.sp_lex.specs.declared.token.Word.TheVariants as w
use Rattle.sp_lex.specs.declared.token.Kernel.{Kernel}
use Rattle.sp_lex.specs.declared.token.Kernel.TheVariants as k
use Rattle.sp_plan.specs.declared.plan.Compare.TheVariants as c
use Rattle.sp_query.specs.declared.mark.Mark.TheVariants as m
use Rattle.sp_query.specs.declared.tree.Tree.{Tree}
use Rattle.sp_query.specs.declared.tree.Node.{Node}
use Rattle.sp_query.specs.declared.tree.Node.TheVariants as n
use Rattle.sp_query.specs.Phrase.{One, Both, Either, left, right}
use Rattle.sp_query.specs.Grammar.{tree, kernel, mark, compare, both_hold, one_holds, joined, Applied, Between, Sum, TestOf, ConjOf, Atom, Pred}
use Rattle.sp_parse.specs.declared.stop.Stop.{Stop}
use Rattle.sp_parse.specs.Follow.{after_sum, after_conj, after_pred, after_definitions}
use Rattle.sp_parse.specs.Reads.{Deeper, heads, never, reads_as, among, Found, Fault, deep, Stuck, Stops, Answers, TakesNone, Joins, head_as}
use Rattle.sp_parse.proofs.Reading as r
use Rattle.sp_parse.proofs.Reading.{Begins}
use Rattle.sp_parse.proofs.Repeats as e
use Rattle.sp_parse.proofs.Marks.{sample, one_found, IsOne}
use Rattle.sp_parse.proofs.Nested.{Some_of}
use Rattle.sp_parse.proofs.Levels as l
use Rattle.sp_parse.proofs.Factors.{factor_head, sum_begins, sum_some, no_below, one_below}

-- ---- chains

pub both_apart_kernel : (x : Kernel) → is_some (both_hold x) ≡ true → after_sum (sample x) ≡ false
both_apart_kernel (k.Word x) h = refl
both_apart_kernel _ h = absurd cc

pub both_apart : (t : Token) (o : Node) → kernel both_hold t ≡ Some o → after_sum t ≡ false
both_apart t o e = both_apart_kernel t.kernel (ap (λ x. is_some x) e)

pub one_apart_kernel : (x : Kernel) → is_some (one_holds x) ≡ true → after_conj (sample x) ≡ false
one_apart_kernel (k.Word w.Or) h = refl
one_apart_kernel _ h = absurd cc

pub one_apart : (t : Token) (o : Node) → kernel one_holds t ≡ Some o → after_conj t ≡ false
one_apart t o e = one_apart_kernel t.kernel (ap (λ x. is_some x) e)

-- ---- sum compare sum

abbrev Compared : ℕ → List Token → Node × Tree → Type 0
Compared = λ n. Both (One (kernel compare)) (Sum n)

abbrev test_of : List Token → Tree × (Node × Tree) → Tree
test_of tokens p = tree p.1.0 (p.0 ∷ p.1.1 ∷ []) tokens

pub compare_out : (x : Kernel) → is_some (compare x) ≡ true → after_sum (sample x) ≡ false
compare_out k.Equal h = refl
compare_out k.Unequal h = refl
compare_out k.Less h = refl
compare_out k.AtMost h = refl
compare_out k.Greater h = refl
compare_out k.AtLeast h = refl
compare_out _ h = absurd cc

compared_begins : Begins (reads_as (kernel compare)) Compared
compared_begins = r.both_begins (reads_as (kernel compare)) (λ _. One (kernel compare)) Sum (r.one_begins (kernel compare))

head_out : (y : List Token) → heads (reads_as (kernel compare)) y ≡ true → (v : List Token) → heads after_sum (y ++ v) ≡ false
head_out [] h v = absurd cc
head_out (t ∷ y) h v = compare_out t.kernel h

compared_apart : (n : ℕ) (y v : List Token) (b : Node × Tree) → Compared n y b → heads after_sum v ≡ false → heads after_sum (y ++ v) ≡ false
compared_apart n y v b d h = head_out y (compared_begins n y b d) v

sum_apart : (n : ℕ) (y v : List Token) (b : Tree) → Sum n y b → heads after_sum v ≡ false → heads never (y ++ v) ≡ false
sum_apart n y v b d h = r.heads_never (y ++ v)

compared_some : Some_of Compared
compared_some i = (
  sample k.Equal ∷ (sum_some i).0,
  (n.Test c.Equal, (sum_some i).1),
  record { front = sample k.Equal ∷ []; back = (sum_some i).0; cut = refl; left = record { token = sample k.Equal; alone = refl; is = refl }; right = (sum_some i).2 },
)

abbrev pub Test : ℕ → List Token → Tree → Type 0
Test = λ n. TestOf (Sum n)

pub test_some : Some_of Test
test_some i = (
  (sum_some i).0 ++ (compared_some i).0,
  test_of ((sum_some i).0 ++ (compared_some i).0) ((sum_some i).1, (compared_some i).1),
  record { of = ((sum_some i).1, (compared_some i).1); is = refl; phrase = record { front = (sum_some i).0; back = (compared_some i).0; cut = refl; left = (sum_some i).2; right = (compared_some i).2 } },
)

pub test_begins : Begins factor_head Test
test_begins = r.built_begins test_of factor_head (λ n. Both (Sum n) (Compared n)) (r.both_begins factor_head Sum Compared sum_begins)

module _ (room : ℕ) (s : List Token) where
  as_test : (f : Fault) (rest : List Token) → Stuck (λ n. Both (Sum n) (Compared n)) after_sum room s f rest → Stuck Test after_sum room s f rest
  as_test f rest x = r.built_stuck test_of (λ n. Both (Sum n) (Compared n)) after_sum room s rest f x

  pub test_first_stops : (e : Stop) → Stops Sum after_sum room s e → Stops Test after_sum room s e
  test_first_stops e h = r.stops_as Sum Test after_sum after_sum room room s s e
      (λ f rest x. as_test f rest (r.both_stuck_left Sum Compared after_sum after_sum room compared_apart s rest f compared_some x)) h

  pub test_by_stops : (m_ : List Token) (a : Tree) (e : Stop) → Found Sum after_sum room s a m_ → TakesNone (kernel compare) m_ e → Stops Test after_sum room s e
  test_by_stops m_ a e x h = r.stops_as (λ _. One (kernel compare)) Test never after_sum room room m_ s e
      (λ f rest y. as_test f rest (r.both_stuck_right Sum Compared after_sum after_sum room compared_apart s m_ rest a f x
      (r.both_stuck_left (λ _. One (kernel compare)) Sum never after_sum room sum_apart m_ rest f sum_some y)))
      (r.untaken_stops (kernel compare) (sample k.Equal) (n.Test c.Equal) refl room m_ e h)

  pub test_second_stops : (m_ behind : List Token) (a : Tree) (o : Node) (e : Stop) → Found Sum after_sum room s a m_ → IsOne compare m_ o behind → Stops Sum after_sum room behind e → Stops Test after_sum room s e
  test_second_stops m_ behind a o e x i h = r.stops_as Sum Test after_sum after_sum room room behind s e
      (λ f rest y. as_test f rest (r.both_stuck_right Sum Compared after_sum after_sum room compared_apart s m_ rest a f x
      (r.both_stuck_right (λ _. One (kernel compare)) Sum never after_sum room sum_apart m_ behind rest o f (one_found compare room m_ behind o i) y)))
      h

  pub test_found : (m_ behind rest : List Token) (a b t : Tree) (o : Node) → Found Sum after_sum room s a m_ → IsOne compare m_ o behind → Found Sum after_sum room behind b rest
      → ((front : List Token) → s ≡ front ++ rest → t ≡ tree o (a ∷ b ∷ []) front) → Found Test after_sum room s t rest
  test_found m_ behind rest a b t o x i y e = r.built_as test_of (λ n. Both (Sum n) (Compared n)) after_sum room s rest (a, (o, b)) t e
      (r.both_found Sum Compared after_sum after_sum room compared_apart s m_ rest a (o, b) x
      (r.both_found (λ _. One (kernel compare)) Sum never after_sum room sum_apart m_ behind rest o b (one_found compare room m_ behind o i) y))

  pub test_shortens : (m_ behind : List Token) (a : Tree) (o : Node) (read : Result (Tree × Bor (List Token)) Stop) → Found Sum after_sum room s a m_ → IsOne compare m_ o behind
      → Answers Sum after_sum room behind (λ p. (p.0, p.1.now)) read → IfOk read (λ p. length p.1.now < length s)
  test_shortens m_ behind a o (Ok p) x i h =
      let one : length behind < length m_ = omega (arith, ap length i.1) in
      let two : length p.1.now ≤ length behind = omega (arith, ap length h.cut, length-append h.front p.1.now) in
      omega (arith, ap length x.cut, length-append x.front m_)
  test_shortens m_ behind a o (Err e) x i h = tt

  pub test_answers : (m_ behind : List Token) (a : Tree) (o : Node) (read y : Result (Tree × Bor (List Token)) Stop) → Found Sum after_sum room s a m_ → IsOne compare m_ o behind
      → Answers Sum after_sum room behind (λ p. (p.0, p.1.now)) read → Joins s a o read y → Answers Test after_sum room s (λ p. (p.0, p.1.now)) y
  test_answers m_ behind a o read (Ok p) x i h j = test_found m_ behind p.1.now a j.0 p.0 o x i (r.read_found Sum after_sum room behind read j.0 p.1 h j.1) j.2
  test_answers m_ behind a o read (Err e) x i h j = test_second_stops m_ behind a o e x i (r.read_stops Sum after_sum room behind read e h j)

-- ---- sum compare sum | NOT atom | "[" pred "]"

abbrev Inner : ℕ → List Token → Tree → Type 0
Inner = l.Held m.Not n.Not m.LeftSquare m.RightSquare Atom Pred

to_atom : (n : ℕ) (u : List Token) (a : Tree) → Either (Test n) (Deeper Inner n) u a → Atom n u a
unfolding Atom
to_atom zero u a (left d) = d
to_atom zero u a (right d) = absurd (no_below d.below d.is)
to_atom (suc n) u a (left d) = left d
to_atom (suc n) u a (right d) = right (subst (λ i. Inner i u a) (one_below d.below n d.is) d.phrase)

pub from_atom : (n : ℕ) (u : List Token) (a : Tree) → Atom n u a → Either (Test n) (Deeper Inner n) u a
unfolding Atom
from_atom zero u a d = left d
from_atom (suc n) u a (left d) = left d
from_atom (suc n) u a (right d) = right (record { below = n; is = refl; phrase = d })

-- ---- some tokens of each

pub atom_some : Some_of Atom
atom_some n = ((test_some n).0, (test_some n).1, to_atom n (test_some n).0 (test_some n).1 (left (test_some n).2))

pub pred_some : Some_of Pred
pred_some n = (
  (atom_some n).0,
  (atom_some n).1,
  e.group_some (kernel one_holds) (λ n. ConjOf (Atom n)) joined after_conj one_apart n (atom_some n).0 (atom_some n).1
      (e.group_some (kernel both_hold) Atom joined after_sum both_apart n (atom_some n).0 (atom_some n).1 (atom_some n).2),
)

-- ---- which of them

-- a closing bracket doesn't go on with a predicate
square_out_kernel : (x : Kernel) → is_some (mark m.RightSquare x) ≡ true → after_pred (sample x) ≡ false
square_out_kernel k.RightSquare h = refl
square_out_kernel _ h = absurd cc

pub square_out : (x : Token) → is_some (mark m.RightSquare x.kernel) ≡ true → after_pred x ≡ false
square_out x h = square_out_kernel x.kernel h

not_no_test_kernel : (x : Kernel) → is_some (mark m.Not x) ≡ true → factor_head (sample x) ≡ false
not_no_test_kernel (k.Word x) h = refl
not_no_test_kernel _ h = absurd cc

pub not_no_test : (x : Token) → is_some (mark m.Not x.kernel) ≡ true → factor_head x ≡ false
not_no_test x h = not_no_test_kernel x.kernel h

square_no_test_kernel : (x : Kernel) → is_some (mark m.LeftSquare x) ≡ true → factor_head (sample x) ≡ false
square_no_test_kernel k.LeftSquare h = refl
square_no_test_kernel _ h = absurd cc

pub square_no_test : (x : Token) → is_some (mark m.LeftSquare x.kernel) ≡ true → factor_head x ≡ false
square_no_test x h = square_no_test_kernel x.kernel h

pub not_no_square : (x : Kernel) → is_some (mark m.Not x) ≡ true → is_some (mark m.LeftSquare x) ≡ false
not_no_square (k.Word x) h = refl
not_no_square _ h = absurd cc

module _ {Y : Type 0} (s : List Token) (view : Y → Tree × List Token) (y : Result Y Stop) (room : ℕ) where
  pub denied_at : room ≢ 0 → is_some (head_as (kernel (mark m.Not)) s) ≡ true → Answers (λ i. Applied m.Not n.Not (Atom i)) after_sum (room - 1) s view y → Answers Atom after_sum room s view y
  denied_at = l.at_mark Atom Test Pred m.Not n.Not m.LeftSquare m.RightSquare after_sum after_pred factor_head to_atom from_atom test_begins test_some pred_some square_out
      not_no_test square_no_test not_no_square s view y room

  pub squared_at : room ≢ 0 → is_some (head_as (kernel (mark m.LeftSquare)) s) ≡ true → Answers (λ n. Between m.LeftSquare (Pred n) m.RightSquare) never (room - 1) s view y → Answers Atom after_sum room s view y
  squared_at = l.at_opening Atom Test Pred m.Not n.Not m.LeftSquare m.RightSquare after_sum after_pred factor_head to_atom from_atom test_begins test_some pred_some square_out
      not_no_test square_no_test not_no_square s view y room

  pub test_at : is_some (head_as (kernel (mark m.Not)) s) ≡ false → is_some (head_as (kernel (mark m.LeftSquare)) s) ≡ false → Answers Test after_sum room s view y → Answers Atom after_sum room s view y
  test_at = l.at_plain Atom Test Pred m.Not n.Not m.LeftSquare m.RightSquare after_sum after_pred factor_head to_atom from_atom test_begins test_some pred_some square_out
      not_no_test square_no_test not_no_square s view y room

module _ (s : List Token) (room : ℕ) where
  pub full_not : room ≡ 0 → is_some (head_as (kernel (mark m.Not)) s) ≡ true → (x : List Token) × (length x ≡ length s) × Stuck Atom after_sum room s deep x
  full_not = l.full_mark Atom Test Pred m.Not n.Not m.LeftSquare m.RightSquare after_sum after_pred factor_head to_atom from_atom test_begins test_some pred_some square_out
      not_no_test square_no_test not_no_square s room

  pub full_square : room ≡ 0 → is_some (head_as (kernel (mark m.LeftSquare)) s) ≡ true → (x : List Token) × (length x ≡ length s) × Stuck Atom after_sum room s deep x
  full_square = l.full_opening Atom Test Pred m.Not n.Not m.LeftSquare m.RightSquare after_sum after_pred factor_head to_atom from_atom test_begins test_some pred_some square_out
      not_no_test square_no_test not_no_square s room

-- ---- which tokens they begin with

abbrev pub atom_head : Token → Bool
atom_head = among factor_head (among (reads_as (kernel (mark m.Not))) (reads_as (kernel (mark m.LeftSquare))))

pub atom_begins : Begins atom_head Atom
atom_begins = l.any_begins Atom Test Pred m.Not n.Not m.LeftSquare m.RightSquare after_sum after_pred factor_head to_atom from_atom test_begins test_some pred_some square_out
    not_no_test square_no_test not_no_square

pub pred_begins : Begins atom_head Pred
pred_begins = e.group_begins (kernel one_holds) (λ n. ConjOf (Atom n)) joined after_conj one_apart atom_head (e.group_begins (kernel both_hold) Atom joined after_sum both_apart atom_head atom_begins)

-- ---- what stands behind a predicate doesn't go on with it

comma_out_kernel : (x : Kernel) → is_some (mark m.Comma x) ≡ true → after_pred (sample x) ≡ false
comma_out_kernel k.Comma h = refl
comma_out_kernel _ h = absurd cc

pub comma_out : (x : Token) → is_some (mark m.Comma x.kernel) ≡ true → after_pred x ≡ false
comma_out x h = comma_out_kernel x.kernel h

within_out_kernel : (x : Kernel) → is_some (mark m.Within x) ≡ true → after_definitions (sample x) ≡ false
within_out_kernel (k.Word w.Within) h = refl
within_out_kernel _ h = absurd cc

-- behind definitions, so that no comma goes on either
pub within_out : (x : Token) → is_some (mark m.Within x.kernel) ≡ true → after_definitions x ≡ false
within_out x h = within_out_kernel x.kernel h

select_out_kernel : (x : Kernel) → is_some (mark m.Select x) ≡ true → after_pred (sample x) ≡ false
select_out_kernel (k.Word w.Select) h = refl
select_out_kernel _ h = absurd cc

pub select_out : (x : Token) → is_some (mark m.Select x.kernel) ≡ true → after_pred x ≡ false
select_out x h = select_out_kernel x.kernel h
