-- Factors, products and sums.
use Rattle.std.proofs.Common.{◌≡◌, ◌≢◌, ◌-◌, ℕ, zero, suc, Bool, true, false, List, [], ◌∷◌, length, Some, is_some, Result, refl, ap, subst, arith}
use Rattle.sp_lex.specs.declared.token.Token.{Token}
use Rattle.sp_lex.specs.declared.token.Kernel.{Kernel}
use Rattle.sp_lex.specs.declared.token.Kernel.TheVariants as k
use Rattle.sp_query.specs.declared.mark.Mark.TheVariants as m
use Rattle.sp_query.specs.declared.tree.Tree.{Tree}
use Rattle.sp_query.specs.declared.tree.Node.{Node}
use Rattle.sp_query.specs.declared.tree.Node.TheVariants as n
use Rattle.sp_query.specs.Phrase.{Either, left, right}
use Rattle.sp_query.specs.Grammar.{tree, kernel, mark, times, plus, joined, Applied, Between, Operand, TermOf, Factor, Sum}
use Rattle.sp_parse.specs.declared.stop.Stop.{Stop}
use Rattle.sp_parse.specs.Follow.{after_factor, after_term, after_sum}
use Rattle.sp_parse.specs.Reads.{Deeper, never, reads_as, among, deep, Stuck, Answers, head_as}
use Rattle.sp_parse.proofs.Reading.{Begins}
use Rattle.sp_parse.proofs.Repeats as e
use Rattle.sp_parse.proofs.Marks.{sample}
use Rattle.sp_parse.proofs.Nested.{Some_of}
use Rattle.sp_parse.proofs.Levels as l
use Rattle.sp_parse.proofs.Operands.{operand_head, operand_begins}

-- ---- chains

pub times_apart_kernel : (x : Kernel) → is_some (times x) ≡ true → after_factor (sample x) ≡ false
times_apart_kernel k.Star h = refl
times_apart_kernel _ h = absurd cc

pub times_apart : (t : Token) (o : Node) → kernel times t ≡ Some o → after_factor t ≡ false
times_apart t o e = times_apart_kernel t.kernel (ap (λ x. is_some x) e)

pub plus_apart_kernel : (x : Kernel) → is_some (plus x) ≡ true → after_term (sample x) ≡ false
plus_apart_kernel k.Plus h = refl
plus_apart_kernel k.Minus h = refl
plus_apart_kernel _ h = absurd cc

pub plus_apart : (t : Token) (o : Node) → kernel plus t ≡ Some o → after_term t ≡ false
plus_apart t o e = plus_apart_kernel t.kernel (ap (λ x. is_some x) e)

-- ---- operand | "-" factor | "(" sum ")"

abbrev Inner : ℕ → List Token → Tree → Type 0
Inner = l.Held m.Minus n.Minus m.LeftRound m.RightRound Factor Sum

pub no_below : (n : ℕ) → 0 ≡ suc n → ⊥
no_below n e = omega arith

pub one_below : (n i : ℕ) → suc i ≡ suc n → n ≡ i
one_below n i e = omega arith

to_factor : (n : ℕ) (u : List Token) (a : Tree) → Either Operand (Deeper Inner n) u a → Factor n u a
unfolding Factor
to_factor zero u a (left d) = d
to_factor zero u a (right d) = absurd (no_below d.below d.is)
to_factor (suc n) u a (left d) = left d
to_factor (suc n) u a (right d) = right (subst (λ i. Inner i u a) (one_below d.below n d.is) d.phrase)

pub from_factor : (n : ℕ) (u : List Token) (a : Tree) → Factor n u a → Either Operand (Deeper Inner n) u a
unfolding Factor
from_factor zero u a d = left d
from_factor (suc n) u a (left d) = left d
from_factor (suc n) u a (right d) = right (record { below = n; is = refl; phrase = d })

-- ---- some tokens of each

operand_some : Some_of (λ _. Operand)
operand_some i = (sample (k.Whole 0) ∷ [], tree (n.Whole 0) [] (sample (k.Whole 0) ∷ []), left (record { of = n.Whole 0; is = refl; phrase = record { token = sample (k.Whole 0); alone = refl; is = refl } }))

pub factor_some : Some_of Factor
factor_some n = ((operand_some n).0, (operand_some n).1, to_factor n (operand_some n).0 (operand_some n).1 (left (operand_some n).2))

pub sum_some : Some_of Sum
sum_some n = (
  (factor_some n).0,
  (factor_some n).1,
  e.group_some (kernel plus) (λ n. TermOf (Factor n)) joined after_term plus_apart n (factor_some n).0 (factor_some n).1
      (e.group_some (kernel times) Factor joined after_factor times_apart n (factor_some n).0 (factor_some n).1 (factor_some n).2),
)

-- ---- which of them

-- a closing parenthesis doesn't go on with a sum
round_out_kernel : (x : Kernel) → is_some (mark m.RightRound x) ≡ true → after_sum (sample x) ≡ false
round_out_kernel k.RightRound h = refl
round_out_kernel _ h = absurd cc

pub round_out : (x : Token) → is_some (mark m.RightRound x.kernel) ≡ true → after_sum x ≡ false
round_out x h = round_out_kernel x.kernel h

minus_no_operand_kernel : (x : Kernel) → is_some (mark m.Minus x) ≡ true → operand_head (sample x) ≡ false
minus_no_operand_kernel k.Minus h = refl
minus_no_operand_kernel _ h = absurd cc

pub minus_no_operand : (x : Token) → is_some (mark m.Minus x.kernel) ≡ true → operand_head x ≡ false
minus_no_operand x h = minus_no_operand_kernel x.kernel h

round_no_operand_kernel : (x : Kernel) → is_some (mark m.LeftRound x) ≡ true → operand_head (sample x) ≡ false
round_no_operand_kernel k.LeftRound h = refl
round_no_operand_kernel _ h = absurd cc

pub round_no_operand : (x : Token) → is_some (mark m.LeftRound x.kernel) ≡ true → operand_head x ≡ false
round_no_operand x h = round_no_operand_kernel x.kernel h

pub minus_no_round : (x : Kernel) → is_some (mark m.Minus x) ≡ true → is_some (mark m.LeftRound x) ≡ false
minus_no_round k.Minus h = refl
minus_no_round _ h = absurd cc

module _ {Y : Type 0} (s : List Token) (view : Y → Tree × List Token) (y : Result Y Stop) (room : ℕ) where
  pub negated_at : room ≢ 0 → is_some (head_as (kernel (mark m.Minus)) s) ≡ true → Answers (λ i. Applied m.Minus n.Minus (Factor i)) after_factor (room - 1) s view y → Answers Factor after_factor room s view y
  negated_at = l.at_mark Factor (λ _. Operand) Sum m.Minus n.Minus m.LeftRound m.RightRound after_factor after_sum operand_head to_factor from_factor operand_begins operand_some sum_some round_out
      minus_no_operand round_no_operand minus_no_round s view y room

  pub enclosed_at : room ≢ 0 → is_some (head_as (kernel (mark m.LeftRound)) s) ≡ true → Answers (λ n. Between m.LeftRound (Sum n) m.RightRound) never (room - 1) s view y → Answers Factor after_factor room s view y
  enclosed_at = l.at_opening Factor (λ _. Operand) Sum m.Minus n.Minus m.LeftRound m.RightRound after_factor after_sum operand_head to_factor from_factor operand_begins operand_some sum_some round_out
      minus_no_operand round_no_operand minus_no_round s view y room

  pub operand_at : is_some (head_as (kernel (mark m.Minus)) s) ≡ false → is_some (head_as (kernel (mark m.LeftRound)) s) ≡ false → Answers (λ _. Operand) after_factor room s view y → Answers Factor after_factor room s view y
  operand_at = l.at_plain Factor (λ _. Operand) Sum m.Minus n.Minus m.LeftRound m.RightRound after_factor after_sum operand_head to_factor from_factor operand_begins operand_some sum_some round_out
      minus_no_operand round_no_operand minus_no_round s view y room

module _ (s : List Token) (room : ℕ) where
  pub full_minus : room ≡ 0 → is_some (head_as (kernel (mark m.Minus)) s) ≡ true → (x : List Token) × (length x ≡ length s) × Stuck Factor after_factor room s deep x
  full_minus = l.full_mark Factor (λ _. Operand) Sum m.Minus n.Minus m.LeftRound m.RightRound after_factor after_sum operand_head to_factor from_factor operand_begins operand_some sum_some round_out
      minus_no_operand round_no_operand minus_no_round s room

  pub full_round : room ≡ 0 → is_some (head_as (kernel (mark m.LeftRound)) s) ≡ true → (x : List Token) × (length x ≡ length s) × Stuck Factor after_factor room s deep x
  full_round = l.full_opening Factor (λ _. Operand) Sum m.Minus n.Minus m.LeftRound m.RightRound after_factor after_sum operand_head to_factor from_factor operand_begins operand_some sum_some round_out
      minus_no_operand round_no_operand minus_no_round s room

-- ---- which tokens they begin with

abbrev pub factor_head : Token → Bool
factor_head = among operand_head (among (reads_as (kernel (mark m.Minus))) (reads_as (kernel (mark m.LeftRound))))

pub factor_begins : Begins factor_head Factor
factor_begins = l.any_begins Factor (λ _. Operand) Sum m.Minus n.Minus m.LeftRound m.RightRound after_factor after_sum operand_head to_factor from_factor operand_begins operand_some sum_some round_out
    minus_no_operand round_no_operand minus_no_round

pub sum_begins : Begins factor_head Sum
sum_begins = e.group_begins (kernel plus) (λ n. TermOf (Factor n)) joined after_term plus_apart factor_head (e.group_begins (kernel times) Factor joined after_factor times_apart factor_head factor_begins)
