-- Expressions and predicates as phrases with two ranks of operators.
use Rattle.std.proofs.Common.{◌≡◌, ◌≢◌, ℕ, zero, suc, Some, List, [], ◌∷◌, refl, sym, ◌∙◌, ap, subst, arith}
use Rattle.sp_lex.specs.declared.token.Token.{Token}
use Rattle.sp_lex.specs.declared.token.Kernel.{Kernel}
use Rattle.sp_lex.specs.declared.token.Kernel.TheVariants as k
use Rattle.sp_lex.specs.declared.token.Word.TheVariants as w
use Rattle.sp_plan.specs.declared.plan.Compare.{Compare}
use Rattle.sp_plan.specs.declared.plan.Compare.TheVariants as c
use Rattle.sp_query.specs.declared.mark.Mark.TheVariants as m
use Rattle.sp_query.specs.declared.tree.Tree.{Tree}
use Rattle.sp_query.specs.declared.tree.Node.{Node}
use Rattle.sp_query.specs.declared.tree.Node.TheVariants as n
use Rattle.sp_query.specs.Phrase.{Either, left, right}
use Rattle.sp_query.specs.Grammar.{plus, times, compare, one_holds, both_hold, Applied, Between, Operand, Factor, Sum, TestOf, Atom, Pred}
use Rattle.sp_query.specs.Same.{SameTree}
use Rattle.sp_syntax.specs.Printing.{Prints, compare_mark, rank, root}
use Rattle.sp_syntax.proofs.Operands.{IsLeaf, operand_leaf}
use Rattle.sp_syntax.proofs.Ranks.{Family, PrintsRoot, root_of, at_more, other_prints}

pub plus_rank : (x : Kernel) (o : Node) → plus x ≡ Some o → rank o ≡ 0
plus_rank k.Plus o e = let d : n.Add ≡ o = cc in ap rank (sym d)
plus_rank k.Minus o e = let d : n.Sub ≡ o = cc in ap rank (sym d)
plus_rank _ o e = absurd cc

pub times_rank : (x : Kernel) (o : Node) → times x ≡ Some o → rank o ≡ 1
times_rank k.Star o e = let d : n.Mul ≡ o = cc in ap rank (sym d)
times_rank _ o e = absurd cc

pub or_rank : (x : Kernel) (o : Node) → one_holds x ≡ Some o → rank o ≡ 0
or_rank (k.Word w.Or) o e = let d : n.Or ≡ o = cc in ap rank (sym d)
or_rank _ o e = absurd cc

pub and_rank : (x : Kernel) (o : Node) → both_hold x ≡ Some o → rank o ≡ 1
and_rank (k.Word w.And) o e = let d : n.And ≡ o = cc in ap rank (sym d)
and_rank _ o e = absurd cc

pub leaf_rank : (o : Node) → IsLeaf o → rank o ≡ 2
leaf_rank (n.Whole x) h = refl
leaf_rank (n.Decimal units scale) h = refl
leaf_rank (n.Literal text) h = refl
leaf_rank (n.Own x) h = refl
leaf_rank (n.Earlier x y) h = refl
leaf_rank _ h = absurd h

-- the roots of tests
abbrev pub IsTest : Node → Type 0
IsTest (n.Test x) = Unit {0}
IsTest _ = ⊥

compare_test : (x : Kernel) (o : Node) → compare x ≡ Some o → IsTest o
compare_test k.Equal o e = let d : n.Test c.Equal ≡ o = cc in subst IsTest d tt
compare_test k.Unequal o e = let d : n.Test c.Unequal ≡ o = cc in subst IsTest d tt
compare_test k.Less o e = let d : n.Test c.Less ≡ o = cc in subst IsTest d tt
compare_test k.AtMost o e = let d : n.Test c.AtMost ≡ o = cc in subst IsTest d tt
compare_test k.Greater o e = let d : n.Test c.Greater ≡ o = cc in subst IsTest d tt
compare_test k.AtLeast o e = let d : n.Test c.AtLeast ≡ o = cc in subst IsTest d tt
compare_test _ o e = absurd cc

pub test_rank : (o : Node) → IsTest o → rank o ≡ 2
test_rank (n.Test x) h = refl
test_rank _ h = absurd h

pub test_root : (S : List Token → Tree → Type 0) (u : List Token) (t : Tree) → TestOf S u t → IsTest (root t)
test_root S u t d = subst IsTest (sym (ap root d.is ∙ root_of d.of.1.0 (d.of.0 ∷ d.of.1.1 ∷ []) u)) (compare_test d.phrase.right.left.token.kernel d.of.1.0 d.phrase.right.left.is)

pub test_map : (S T : List Token → Tree → Type 0) → ((u : List Token) (t : Tree) → S u t → T u t) → (u : List Token) (t : Tree) → TestOf S u t → TestOf T u t
test_map S T f u t d =
    let p = d.phrase in
    let q = p.right in
    record { of = d.of; is = d.is; phrase = record { front = p.front; back = p.back; cut = p.cut; left = f p.front d.of.0 p.left; right = record { front = q.front; back = q.back; cut = q.cut; left = q.left; right = f q.back d.of.1.1 q.right } } }

module _ (room : ℕ) (u : List Token) (t : Tree) where
  pub factor_zero : Factor zero u t → Operand u t
  unfolding Factor
  factor_zero d = d

  pub factor_suc : Factor (suc room) u t → Either Operand (Either (Applied m.Minus n.Minus (Factor room)) (Between m.LeftRound (Sum room) m.RightRound)) u t
  unfolding Factor
  factor_suc d = d

  pub factor_sign : Applied m.Minus n.Minus (Factor room) u t → Factor (suc room) u t
  unfolding Factor
  factor_sign d = right (left d)

  pub factor_brackets : Between m.LeftRound (Sum room) m.RightRound u t → Factor (suc room) u t
  unfolding Factor
  factor_brackets d = right (right d)

  pub atom_zero : Atom zero u t → TestOf (Sum zero) u t
  unfolding Atom
  atom_zero d = d

  pub atom_suc : Atom (suc room) u t → Either (TestOf (Sum (suc room))) (Either (Applied m.Not n.Not (Atom room)) (Between m.LeftSquare (Pred room) m.RightSquare)) u t
  unfolding Atom
  atom_suc d = d

  pub atom_sign : Applied m.Not n.Not (Atom room) u t → Atom (suc room) u t
  unfolding Atom
  atom_sign d = right (left d)

  pub atom_brackets : Between m.LeftSquare (Pred room) m.RightSquare u t → Atom (suc room) u t
  unfolding Atom
  atom_brackets d = right (right d)

pub operand_factor : (room : ℕ) (u : List Token) (t : Tree) → Operand u t → Factor room u t
unfolding Factor
operand_factor zero u t d = d
operand_factor (suc room) u t d = left d

pub test_atom : (room : ℕ) (u : List Token) (t : Tree) → TestOf (Sum room) u t → Atom room u t
unfolding Atom
test_atom zero u t d = d
test_atom (suc room) u t d = left d

abbrev pub expressions : Family
expressions = record {
  Base = λ room. Operand;
  Top = Factor;
  loose = plus;
  firm = times;
  pre = m.Minus;
  sign = n.Minus;
  before = m.LeftRound;
  after = m.RightRound;
  out_zero = factor_zero 0;
  out_suc = factor_suc;
  in_base = operand_factor;
  in_sign = factor_sign;
  in_brackets = factor_brackets;
  base_more = λ room u t d. d;
  loose_rank = plus_rank;
  firm_rank = times_rank;
  sign_rank = refl;
  base_rank = λ room u t d. leaf_rank (root t) (operand_leaf u t d);
  base_other = λ room u t d e. subst IsLeaf e (operand_leaf u t d);
}

abbrev pub predicates : Family
predicates = record {
  Base = λ room. TestOf (Sum room);
  Top = Atom;
  loose = one_holds;
  firm = both_hold;
  pre = m.Not;
  sign = n.Not;
  before = m.LeftSquare;
  after = m.RightSquare;
  out_zero = atom_zero 0;
  out_suc = atom_suc;
  in_base = test_atom;
  in_sign = atom_sign;
  in_brackets = atom_brackets;
  base_more = λ room u t d. test_map (Sum room) (Sum (suc room)) (at_more expressions 0 room (suc room) (omega arith)) u t d;
  loose_rank = or_rank;
  firm_rank = and_rank;
  sign_rank = refl;
  base_rank = λ room u t d. test_rank (root t) (test_root (Sum room) u t d);
  base_other = λ room u t d e. subst IsTest e (test_root (Sum room) u t d);
}

-- ---- other roots

plus_not : (x : Kernel) (o : Node) → o ≢ n.Add → o ≢ n.Sub → plus x ≢ Some o
plus_not k.Plus o a b e = let d : n.Add ≡ o = cc in a (sym d)
plus_not k.Minus o a b e = let d : n.Sub ≡ o = cc in b (sym d)
plus_not _ o a b e = absurd cc

times_not : (x : Kernel) (o : Node) → o ≢ n.Mul → times x ≢ Some o
times_not k.Star o a e = let d : n.Mul ≡ o = cc in a (sym d)
times_not _ o a e = absurd cc

or_not : (x : Kernel) (o : Node) → o ≢ n.Or → one_holds x ≢ Some o
or_not (k.Word w.Or) o a e = let d : n.Or ≡ o = cc in a (sym d)
or_not _ o a e = absurd cc

and_not : (x : Kernel) (o : Node) → o ≢ n.And → both_hold x ≢ Some o
and_not (k.Word w.And) o a e = let d : n.And ≡ o = cc in a (sym d)
and_not _ o a e = absurd cc

pub operand_prints : (t : Tree) (x : List ℕ) → root t ≢ n.Minus → root t ≢ n.Add → root t ≢ n.Sub → root t ≢ n.Mul → Prints Operand SameTree t x → PrintsRoot expressions t x
operand_prints t x sign add sub mul f = other_prints expressions t x (λ k. plus_not k (root t) add sub) (λ k. times_not k (root t) mul) sign (λ room. f)

pub test_prints : (t : Tree) (x : List ℕ) → root t ≢ n.And → root t ≢ n.Or → root t ≢ n.Not → ((room : ℕ) → Prints (TestOf (Sum room)) SameTree t x) → PrintsRoot predicates t x
test_prints t x and or not_ f = other_prints predicates t x (λ k. or_not k (root t) or) (λ k. and_not k (root t) and) not_ f

test_only : (o : Node) → IsTest o → ((x : Compare) → o ≢ n.Test x) → ⊥
test_only (n.Test x) h m = m x refl
test_only _ h m = absurd h

pub no_test : (t : Tree) → ((x : Compare) → root t ≢ n.Test x) → (room : ℕ) → Prints (TestOf (Sum room)) SameTree t []
no_test t n room has = absurd (test_only (root t) (test_root (Sum room) has.tokens t has.phrase) n)

pub compare_reads : (x : Compare) → compare (compare_mark x) ≡ Some (n.Test x)
compare_reads c.Equal = refl
compare_reads c.Unequal = refl
compare_reads c.Less = refl
compare_reads c.AtMost = refl
compare_reads c.Greater = refl
compare_reads c.AtLeast = refl
