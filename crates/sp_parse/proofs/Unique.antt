-- Expressions and predicates are unique, whatever the numbers of levels: two of them in front of the same tokens are one where no token follows that goes on with them.
use Rattle.std.proofs.Common.{◌≡◌, ℕ, zero, suc, Bool, List, ◌∷◌, [], ◌++◌, Option, sym, subst}
use Rattle.sp_lex.specs.declared.token.Token.{Token}
use Rattle.sp_lex.specs.declared.token.Kernel.{Kernel}
use Rattle.sp_query.specs.declared.mark.Mark.{Mark}
use Rattle.sp_query.specs.declared.mark.Mark.TheVariants as m
use Rattle.sp_query.specs.declared.tree.Tree.{Tree}
use Rattle.sp_query.specs.declared.tree.Node.{Node}
use Rattle.sp_query.specs.declared.tree.Node.TheVariants as n
use Rattle.sp_query.specs.Phrase.{One, Both, Either, Built, Optional}
use Rattle.sp_query.specs.Grammar.{kernel, mark, name, constant, times, plus, compare, both_hold, one_holds, tree, joined, named, After, Between, Alone, ListOf, MoreOf, Grouped, Applied, Constant, Dotted, Named, Operand, TermOf, Factor, Sum, TestOf, ConjOf, Atom, Pred}
use Rattle.sp_parse.specs.Follow.{after_factor, after_term, after_sum, after_conj, after_pred}
use Rattle.sp_parse.specs.Reads.{Deeper, never, reads_as, among}
use Rattle.sp_parse.proofs.Reading as r
use Rattle.sp_parse.proofs.Reading.{Begins}
use Rattle.sp_parse.proofs.Levels.{Held, turned}
use Rattle.sp_parse.proofs.Operands as o
use Rattle.sp_parse.proofs.Factors as f
use Rattle.sp_parse.proofs.Atoms as a
use Rattle.sp_parse.proofs.Agree.{Agree, Starts, Parts, Clash, one_agrees, both_agree, built_agree, either_agree, optional_agree, repeat_agree, agree_within, apart_heads}

-- ---- kinds of tokens

pub flips : (F G : Token → Bool) → Clash F G → Clash G F
flips F G clash t h = turned (F t) (G t) (clash t) h

-- no token of F is among those
pub clash_both : (F G H : Token → Bool) → Clash F G → Clash F H → Clash F (among G H)
clash_both F G H one two t h = r.or_false (G t) (H t) (one t h) (two t h)

pub free : {A : Type 0} (M : List Token → A → Type 0) (D : Token → Bool) → Parts M never D
free M D y v b d h = r.heads_never (y ++ v)

pub begun : {A : Type 0} (F C D : Token → Bool) (M : List Token → A → Type 0) → Starts F M → Clash F C → Parts M C D
begun F C D M begins apart y v b d h = apart_heads F C apart y v (begins y b d)

-- ---- the forms of productions

-- what needs no token behind it
pub complete : {A : Type 0} (L M : List Token → A → Type 0) (D : Token → Bool) → Agree L M never → Agree L M D
complete L M D of = agree_within L M never D (λ v h. r.heads_never v) of

-- one phrase and another, where nothing goes on with the first
pub pair_agree : {A B : Type 0} (L L' : List Token → A → Type 0) (M M' : List Token → B → Type 0) (D : Token → Bool) → Agree L L' never → Agree M M' D → Agree (Both L M) (Both L' M') D
pair_agree L L' M M' D one two = both_agree L L' M M' never D (free M D) (free M' D) one two

-- what begins with one token
pub token_starts : {A B E : Type 0} (f : Token → Option A) (M : List Token → B → Type 0) (g : List Token → A × B → E) → Starts (reads_as f) (Built g (Both (One f) M))
token_starts f M g u a d = r.both_begins (reads_as f) (λ _. One f) (λ _. M) (r.one_begins f) 0 u d.of d.phrase

pub step_starts : {A B : Type 0} (f : Token → Option A) (M : List Token → B → Type 0) → Starts (reads_as f) (Both (One f) M)
step_starts f M u a d = r.both_begins (reads_as f) (λ _. One f) (λ _. M) (r.one_begins f) 0 u a d

-- a token, and then a phrase
pub behind_agree : {A B E : Type 0} (f : Token → Option A) (g : List Token → A × B → E) (L L' : List Token → B → Type 0) (C : Token → Bool) → Agree L L' C → Agree (Built g (Both (One f) L)) (Built g (Both (One f) L')) C
behind_agree f g L L' C of = built_agree g (Both (One f) L) (Both (One f) L') C (pair_agree (One f) (One f) L L' C (one_agrees f) of)

pub after_agree : {A : Type 0} (which : Mark) (L L' : List Token → A → Type 0) (C : Token → Bool) → Agree L L' C → Agree (After which L) (After which L') C
after_agree which L L' C of = behind_agree (kernel (mark which)) (λ tokens p. p.1) L L' C of

pub applied_agree : (which : Mark) (node : Node) (L L' : List Token → Tree → Type 0) (C : Token → Bool) → Agree L L' C → Agree (Applied which node L) (Applied which node L') C
applied_agree which node L L' C of = behind_agree (kernel (mark which)) (λ tokens p. tree node (p.1 ∷ []) tokens) L L' C of

-- the second mark doesn't go on with the phrase
pub between_agree : {A : Type 0} (first : Mark) (L L' : List Token → A → Type 0) (last : Mark) (C : Token → Bool) → Clash (reads_as (kernel (mark last))) C → Agree L L' C → Agree (Between first L last) (Between first L' last) never
between_agree first L L' last C out of =
    let close = begun (reads_as (kernel (mark last))) C never (One (kernel (mark last))) (r.one_begins (kernel (mark last)) 0) out in
    behind_agree (kernel (mark first)) (λ tokens p. p.1.0) (Both L (One (kernel (mark last)))) (Both L' (One (kernel (mark last)))) never
    (both_agree L L' (One (kernel (mark last))) (One (kernel (mark last))) C never close close of (one_agrees (kernel (mark last))))

pub grouped_agree : (op : Kernel → Option Node) (L L' : List Token → Tree → Type 0) (C : Token → Bool) → Clash (reads_as (kernel op)) C → Agree L L' C → Agree (Grouped L op) (Grouped L' op) (among C (reads_as (kernel op)))
grouped_agree op L L' C apart of = repeat_agree L L' (Both (One (kernel op)) L) (Both (One (kernel op)) L') joined C (reads_as (kernel op)) (step_starts (kernel op) L) (step_starts (kernel op) L') apart of
    (pair_agree (One (kernel op)) (One (kernel op)) L L' C (one_agrees (kernel op)) of)

pub alone_agree : {A : Type 0} (L L' : List Token → A → Type 0) (C : Token → Bool) → Agree L L' C → Agree (Alone L) (Alone L') C
alone_agree L L' C of = built_agree (λ tokens x. x ∷ []) L L' C of

pub list_agree : {A : Type 0} (L L' : List Token → A → Type 0) (C : Token → Bool) → Clash (reads_as (kernel (mark m.Comma))) C → Agree L L' C → Agree (ListOf L) (ListOf L') (among C (reads_as (kernel (mark m.Comma))))
list_agree L L' C apart of = repeat_agree (Alone L) (Alone L') (Both (One (kernel (mark m.Comma))) L) (Both (One (kernel (mark m.Comma))) L') (λ tokens xs p. xs ++ p.1 ∷ []) C (reads_as (kernel (mark m.Comma)))
    (step_starts (kernel (mark m.Comma)) L) (step_starts (kernel (mark m.Comma)) L') apart (alone_agree L L' C of)
    (pair_agree (One (kernel (mark m.Comma))) (One (kernel (mark m.Comma))) L L' C (one_agrees (kernel (mark m.Comma))) of)

pub more_agree : {A : Type 0} (M : List Token → List A → Type 0) (L : List Token → A → Type 0) (C F : Token → Bool) → Starts F L → Clash F C → Agree M M C → Agree L L C → Agree (MoreOf M L) (MoreOf M L) (among C F)
more_agree M L C F begins apart first of = repeat_agree M M L L (λ tokens xs x. xs ++ x ∷ []) C F begins begins apart first of

-- ---- phrases that hold themselves one level deeper

-- X is B, or X behind a mark, or I between two marks.
module _ (X B I : ℕ → List Token → Tree → Type 0) (which : Mark) (node : Node) (opens closes : Mark) (C D F : Token → Bool)
    (from : (n : ℕ) (u : List Token) (a : Tree) → X n u a → Either (B n) (Deeper (Held which node opens closes X I) n) u a)
    (base : Begins F B) (out : Clash (reads_as (kernel (mark closes))) D)
    (which_out : Clash (reads_as (kernel (mark which))) F) (opens_out : Clash (reads_as (kernel (mark opens))) F) (apart : Clash (reads_as (kernel (mark which))) (reads_as (kernel (mark opens))))
    (plain : (n k : ℕ) → Agree (B n) (B k) C) (inside : (n k : ℕ) → Agree (X n) (X k) C → Agree (I n) (I k) D) where
  abbrev held_head : Token → Bool
  held_head = among (reads_as (kernel (mark which))) (reads_as (kernel (mark opens)))

  held_begins : Begins held_head (Held which node opens closes X I)
  held_begins = r.either_begins (reads_as (kernel (mark which))) (reads_as (kernel (mark opens))) (λ n. Applied which node (X n)) (λ n. Between opens (I n) closes)
      (λ n. token_starts (kernel (mark which)) (X n) (λ tokens p. tree node (p.1 ∷ []) tokens)) (λ n. token_starts (kernel (mark opens)) (Both (I n) (One (kernel (mark closes)))) (λ tokens p. p.1.0))

  held_agree : (n k : ℕ) → Agree (X n) (X k) C → Agree (Held which node opens closes X I n) (Held which node opens closes X I k) C
  held_agree n k of = either_agree (Applied which node (X n)) (Applied which node (X k)) (Between opens (I n) closes) (Between opens (I k) closes) C (reads_as (kernel (mark which))) (reads_as (kernel (mark opens))) apart
      (token_starts (kernel (mark which)) (X n) (λ tokens p. tree node (p.1 ∷ []) tokens)) (token_starts (kernel (mark which)) (X k) (λ tokens p. tree node (p.1 ∷ []) tokens))
      (token_starts (kernel (mark opens)) (Both (I n) (One (kernel (mark closes)))) (λ tokens p. p.1.0)) (token_starts (kernel (mark opens)) (Both (I k) (One (kernel (mark closes)))) (λ tokens p. p.1.0))
      (applied_agree which node (X n) (X k) C of)
      (complete (Between opens (I n) closes) (Between opens (I k) closes) C (between_agree opens (I n) (I k) closes D out (inside n k of)))

  abbrev Below : ℕ → ℕ → Type 0
  Below n k = (i j : ℕ) → n ≡ suc i → k ≡ suc j → Agree (X i) (X j) C

  deeper_agree : (n k : ℕ) → Below n k → Agree (Deeper (Held which node opens closes X I) n) (Deeper (Held which node opens closes X I) k) C
  deeper_agree n k below u v y w a b d e h i same = held_agree d.below e.below (below d.below e.below d.is e.is) u v y w a b d.phrase e.phrase h i same

  head_clash : Clash F held_head
  head_clash = clash_both F (reads_as (kernel (mark which))) (reads_as (kernel (mark opens))) (flips (reads_as (kernel (mark which))) F which_out) (flips (reads_as (kernel (mark opens))) F opens_out)

  one_level : (n k : ℕ) → Below n k → Agree (X n) (X k) C
  one_level n k below u v y w a b d e h i same =
      either_agree (B n) (B k) (Deeper (Held which node opens closes X I) n) (Deeper (Held which node opens closes X I) k) C F held_head head_clash (base n) (base k)
      (r.deeper_begins held_head (Held which node opens closes X I) held_begins n) (r.deeper_begins held_head (Held which node opens closes X I) held_begins k)
      (plain n k) (deeper_agree n k below) u v y w a b (from n u a d) (from k y b e) h i same

  pub levels_agree : (n k : ℕ) → Agree (X n) (X k) C
  levels_agree zero k = one_level zero k (λ i j d e. absurd (f.no_below i d))
  levels_agree (suc n) k = one_level (suc n) k (λ i j d e. subst (λ z. Agree (X z) (X j) C) (sym (f.one_below i n d)) (levels_agree n j))

-- ---- operands

constant_agrees : Agree Constant Constant never
constant_agrees = built_agree (λ tokens x. tree x [] tokens) (One (kernel constant)) (One (kernel constant)) never (one_agrees (kernel constant))

dotted_agrees : Agree Dotted Dotted never
dotted_agrees = after_agree m.Dot (One (kernel name)) (One (kernel name)) never (one_agrees (kernel name))

named_agrees : Agree Named Named after_factor
named_agrees = agree_within Named Named (among after_factor never) after_factor o.within
    (behind_agree (kernel name) named (Optional Dotted) (Optional Dotted) (among after_factor never)
    (optional_agree Dotted Dotted never after_factor (o.dotted_begins 0) (o.dotted_begins 0) dotted_agrees))

operand_agrees : Agree Operand Operand after_factor
operand_agrees = either_agree Constant Constant Named Named after_factor (reads_as (kernel constant)) (reads_as (kernel name)) (flips (reads_as (kernel name)) (reads_as (kernel constant)) (λ t. o.name_no_constant t.kernel))
    (o.constant_begins 0) (o.constant_begins 0) (o.named_begins 0) (o.named_begins 0) (complete Constant Constant after_factor constant_agrees) named_agrees

-- ---- factors, products and sums

sums_agree : (n k : ℕ) → Agree (Factor n) (Factor k) after_factor → Agree (Sum n) (Sum k) after_sum
sums_agree n k of = grouped_agree plus (TermOf (Factor n)) (TermOf (Factor k)) after_term (λ t. f.plus_apart_kernel t.kernel) (grouped_agree times (Factor n) (Factor k) after_factor (λ t. f.times_apart_kernel t.kernel) of)

factor_agrees : (n k : ℕ) → Agree (Factor n) (Factor k) after_factor
factor_agrees = levels_agree Factor (λ _. Operand) Sum m.Minus n.Minus m.LeftRound m.RightRound after_factor after_sum o.operand_head f.from_factor o.operand_begins f.round_out
    f.minus_no_operand f.round_no_operand (λ t. f.minus_no_round t.kernel) (λ n k. operand_agrees) sums_agree

pub sum_agrees : (n k : ℕ) → Agree (Sum n) (Sum k) after_sum
sum_agrees n k = sums_agree n k (factor_agrees n k)

-- ---- tests, atoms and predicates

test_agrees : (n k : ℕ) → Agree (TestOf (Sum n)) (TestOf (Sum k)) after_sum
test_agrees n k =
    let apart = λ (x : Token). a.compare_out x.kernel in
    built_agree (λ tokens p. tree p.1.0 (p.0 ∷ p.1.1 ∷ []) tokens) (Both (Sum n) (Both (One (kernel compare)) (Sum n))) (Both (Sum k) (Both (One (kernel compare)) (Sum k))) after_sum
    (both_agree (Sum n) (Sum k) (Both (One (kernel compare)) (Sum n)) (Both (One (kernel compare)) (Sum k)) after_sum after_sum
    (begun (reads_as (kernel compare)) after_sum after_sum (Both (One (kernel compare)) (Sum n)) (step_starts (kernel compare) (Sum n)) apart)
    (begun (reads_as (kernel compare)) after_sum after_sum (Both (One (kernel compare)) (Sum k)) (step_starts (kernel compare) (Sum k)) apart)
    (sum_agrees n k)
    (pair_agree (One (kernel compare)) (One (kernel compare)) (Sum n) (Sum k) after_sum (one_agrees (kernel compare)) (sum_agrees n k)))

preds_agree : (n k : ℕ) → Agree (Atom n) (Atom k) after_sum → Agree (Pred n) (Pred k) after_pred
preds_agree n k of = grouped_agree one_holds (ConjOf (Atom n)) (ConjOf (Atom k)) after_conj (λ t. a.one_apart_kernel t.kernel) (grouped_agree both_hold (Atom n) (Atom k) after_sum (λ t. a.both_apart_kernel t.kernel) of)

atom_agrees : (n k : ℕ) → Agree (Atom n) (Atom k) after_sum
atom_agrees = levels_agree Atom a.Test Pred m.Not n.Not m.LeftSquare m.RightSquare after_sum after_pred f.factor_head a.from_atom a.test_begins a.square_out
    a.not_no_test a.square_no_test (λ t. a.not_no_square t.kernel) test_agrees preds_agree

pub pred_agrees : (n k : ℕ) → Agree (Pred n) (Pred k) after_pred
pred_agrees n k = preds_agree n k (atom_agrees n k)
