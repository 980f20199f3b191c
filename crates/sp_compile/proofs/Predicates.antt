-- What is known of a predicate, by what is known of its parts.
use Rattle.std.proofs.Common.{◌≡◌, ◌≢◌, ℕ, Bool, true, ◌&&◌, ◌||◌, not, List, [], ◌∷◌, Option, Some, None, Result, Ok, Err, IfOk, refl, sym, ◌∙◌, subst}
use Rattle.sp_plan.specs.declared.event.Event.{Event}
use Rattle.sp_plan.specs.declared.plan.Compare.{Compare}
use Rattle.sp_plan.specs.declared.plan.Expr.{Expr}
use Rattle.sp_plan.specs.declared.plan.Pred.{Pred}
use Rattle.sp_plan.specs.Bounds.{PredWithin}
use Rattle.sp_plan.specs.Comparable.{Readable, IsComparable}
use Rattle.sp_plan.specs.Values.{BoundEvents, holds}
use Rattle.sp_query.specs.declared.tree.Tree.{Tree, out-Tree}
use Rattle.sp_query.specs.declared.tree.Node.{Node}
use Rattle.sp_query.specs.declared.tree.Node.TheVariants as n
use Rattle.sp_compile.specs.declared.fault.CompileFault.{CompileFault}
use Rattle.sp_compile.specs.declared.fault.CompileFault.TheVariants as f
use Rattle.sp_compile.specs.declared.sort.Sort.{Sort}
use Rattle.sp_compile.specs.Scopes.{Scope}
use Rattle.sp_compile.specs.Sorts.{sides_fault}
use Rattle.sp_compile.specs.Checks as ch
use Rattle.sp_compile.specs.Checks.{Types, Tests, span_of, is_junction}
use Rattle.sp_compile.specs.Meaning as m
use Rattle.sp_compile.specs.Meaning.{Truth, compared}
use Rattle.sp_compile.specs.Answers.{ExprAnswer, Faulty, PredAnswer, readable_in}
use Rattle.sp_compile.specs.Parts.{comes_to, BothSorted, BothComparable, Found, MadePredAnswer, joined, FirstFault, JointAnswer, NegationAnswer}
use Rattle.sp_compile.proofs.Expressions.{typed}

-- ---- faults that are not want of memory

faulty : (scope : Scope) (t : Tree) (fault : CompileFault) → (fault ≢ f.Memory → Tests scope t (Some fault)) → Faulty scope t fault
faulty scope t (f.Unknown span) h = h (λ e. cc)
faulty scope t (f.Twice span) h = h (λ e. cc)
faulty scope t (f.WrongKind span) h = h (λ e. cc)
faulty scope t (f.PlusLast span) h = h (λ e. cc)
faulty scope t (f.LateReference span) h = h (λ e. cc)
faulty scope t (f.TooWide span) h = h (λ e. cc)
faulty scope t (f.BadWindow span) h = h (λ e. cc)
faulty scope t (f.TooMany span) h = h (λ e. cc)
faulty scope t (f.NeverEnds span) h = h (λ e. cc)
faulty scope t (f.NeverBound span) h = h (λ e. cc)
faulty scope t f.Memory h = tt

tested : (scope : Scope) (t : Tree) (fault : CompileFault) → fault ≢ f.Memory → Faulty scope t fault → Tests scope t (Some fault)
tested scope t (f.Unknown span) some h = h
tested scope t (f.Twice span) some h = h
tested scope t (f.WrongKind span) some h = h
tested scope t (f.PlusLast span) some h = h
tested scope t (f.LateReference span) some h = h
tested scope t (f.TooWide span) some h = h
tested scope t (f.BadWindow span) some h = h
tested scope t (f.TooMany span) some h = h
tested scope t (f.NeverEnds span) some h = h
tested scope t (f.NeverBound span) some h = h
tested scope t f.Memory some h = absurd (some refl)

found_by : (found : Option CompileFault) (fault : CompileFault) → fault ≢ f.Memory → Found found fault → found ≡ Some fault
found_by found (f.Unknown span) some h = h
found_by found (f.Twice span) some h = h
found_by found (f.WrongKind span) some h = h
found_by found (f.PlusLast span) some h = h
found_by found (f.LateReference span) some h = h
found_by found (f.TooWide span) some h = h
found_by found (f.BadWindow span) some h = h
found_by found (f.TooMany span) some h = h
found_by found (f.NeverEnds span) some h = h
found_by found (f.NeverBound span) some h = h
found_by found f.Memory some h = absurd (some refl)

module _ (scope : Scope) (texts : List (List ℕ)) (t : Tree) where
  made : (found : Option CompileFault) (meant : Event → BoundEvents → Option Bool) (parts : Readable → Type 0) (r : Result Pred CompileFault) → MadePredAnswer found meant parts r
      → parts (readable_in scope texts) → Tests scope t found → ((e : Event) (b : BoundEvents) (is : Bool) → meant e b ≡ Some is → Truth scope texts e b t is) → PredAnswer scope texts t r
  made found meant parts (Ok pred) h known tests truth = record {
    tests = subst (Tests scope t) h.none tests;
    within = h.within;
    comparable = h.comparable (readable_in scope texts) known;
    holds_as = λ e b. truth e b (holds pred e b) (h.holds_as e b);
  }
  made found meant parts (Err fault) h known tests truth = faulty scope t fault (λ some. subst (Tests scope t) (found_by found fault some h) tests)

  -- ---- comparisons

  pub test_is : (left right : Tree) (by : Compare) (one other : Expr × Sort) (r : Result Pred CompileFault) → (out-Tree t).node ≡ n.Test by → (out-Tree t).parts ≡ left ∷ right ∷ []
      → ExprAnswer scope texts left (Ok one) → ExprAnswer scope texts right (Ok other)
      → MadePredAnswer (sides_fault by (span_of t) (span_of left) (span_of right) one.1 other.1) (λ e b. compared by (comes_to one e b) (comes_to other e b)) (BothSorted one other) r → PredAnswer scope texts t r
  test_is left right by one other r is parts p q h =
      made (sides_fault by (span_of t) (span_of left) (span_of right) one.1 other.1) (λ e b. compared by (comes_to one e b) (comes_to other e b)) (BothSorted one other) r h (p.sorted, q.sorted)
      (ch.compared t left right by (Ok one.1) (Ok other.1) (sides_fault by (span_of t) (span_of left) (span_of right) one.1 other.1) is parts p.types q.types refl)
      (λ e b holds same. m.test t left right by (comes_to one e b) (comes_to other e b) holds is parts (p.means e b) (q.means e b) same)

  test_first : (left right : Tree) (by : Compare) (l r : Result (Expr × Sort) CompileFault) (fault : CompileFault) → (out-Tree t).node ≡ n.Test by → (out-Tree t).parts ≡ left ∷ right ∷ []
      → ExprAnswer scope texts left l → ExprAnswer scope texts right r → fault ≢ f.Memory → FirstFault l r fault → Tests scope t (Some fault)
  test_first left right by (Ok one) (Ok other) fault is parts p q some h = absurd h
  test_first left right by (Ok one) (Err found) fault is parts p q some h =
      subst (λ x. Tests scope t (Some x)) (sym h) (ch.compared t left right by (Ok one.1) (Err found) (Some found) is parts p.types (typed scope right found (λ e. some (h ∙ e)) q) refl)
  test_first left right by (Err found) (Ok other) fault is parts p q some h =
      subst (λ x. Tests scope t (Some x)) (sym h) (ch.compared t left right by (Err found) (Ok other.1) (Some found) is parts (typed scope left found (λ e. some (h ∙ e)) p) q.types refl)
  test_first left right by (Err found) (Err later) fault is parts p q some h =
      subst (λ x. Tests scope t (Some x)) (sym h.0) (ch.compared t left right by (Err found) (Err later) (Some found) is parts (typed scope left found (λ e. some (h.0 ∙ e)) p) (typed scope right later h.1 q) refl)

  pub test_faulty : (left right : Tree) (by : Compare) (l r : Result (Expr × Sort) CompileFault) (fault : CompileFault) → (out-Tree t).node ≡ n.Test by → (out-Tree t).parts ≡ left ∷ right ∷ []
      → ExprAnswer scope texts left l → ExprAnswer scope texts right r → (fault ≢ f.Memory → FirstFault l r fault) → Faulty scope t fault
  test_faulty left right by l r fault is parts p q h = faulty scope t fault (λ some. test_first left right by l r fault is parts p q some (h some))

  -- ---- both of two predicates, and either

  joined_truth : (left right : Tree) (one other : Bool) (e : Event) (b : BoundEvents) (node : Node) → (out-Tree t).node ≡ node → is_junction node ≡ true → (out-Tree t).parts ≡ left ∷ right ∷ []
      → Truth scope texts e b left one → Truth scope texts e b right other → Truth scope texts e b t (joined node one other)
  joined_truth left right one other e b n.And is join parts p q = m.both t left right one other (one && other) is parts p q refl
  joined_truth left right one other e b n.Or is join parts p q = m.either t left right one other (one || other) is parts p q refl
  joined_truth left right one other e b (n.Whole x) is join parts p q = absurd cc
  joined_truth left right one other e b (n.Decimal x k) is join parts p q = absurd cc
  joined_truth left right one other e b (n.Literal x) is join parts p q = absurd cc
  joined_truth left right one other e b (n.Own x) is join parts p q = absurd cc
  joined_truth left right one other e b (n.Earlier x y) is join parts p q = absurd cc
  joined_truth left right one other e b n.Minus is join parts p q = absurd cc
  joined_truth left right one other e b n.Add is join parts p q = absurd cc
  joined_truth left right one other e b n.Sub is join parts p q = absurd cc
  joined_truth left right one other e b n.Mul is join parts p q = absurd cc
  joined_truth left right one other e b (n.Test by) is join parts p q = absurd cc
  joined_truth left right one other e b n.Not is join parts p q = absurd cc

  pub joined_is : (left right : Tree) (one other : Pred) (r : Result Pred CompileFault) → is_junction (out-Tree t).node ≡ true → (out-Tree t).parts ≡ left ∷ right ∷ []
      → PredAnswer scope texts left (Ok one) → PredAnswer scope texts right (Ok other)
      → MadePredAnswer None (λ e b. Some (joined (out-Tree t).node (holds one e b) (holds other e b))) (BothComparable one other) r → PredAnswer scope texts t r
  joined_is left right one other r join parts p q h =
      made None (λ e b. Some (joined (out-Tree t).node (holds one e b) (holds other e b))) (BothComparable one other) r h (p.comparable, q.comparable) (ch.joined t left right None None None join parts p.tests q.tests refl)
      (λ e b is same.
      let found : joined (out-Tree t).node (holds one e b) (holds other e b) ≡ is = cc in
      subst (Truth scope texts e b t) found (joined_truth left right (holds one e b) (holds other e b) e b (out-Tree t).node refl join parts (p.holds_as e b) (q.holds_as e b)))

  joined_first : (left right : Tree) (l r : Result Pred CompileFault) (fault : CompileFault) → is_junction (out-Tree t).node ≡ true → (out-Tree t).parts ≡ left ∷ right ∷ []
      → PredAnswer scope texts left l → PredAnswer scope texts right r → fault ≢ f.Memory → FirstFault l r fault → Tests scope t (Some fault)
  joined_first left right (Ok one) (Ok other) fault join parts p q some h = absurd h
  joined_first left right (Ok one) (Err found) fault join parts p q some h =
      subst (λ x. Tests scope t (Some x)) (sym h) (ch.joined t left right None (Some found) (Some found) join parts p.tests (tested scope right found (λ e. some (h ∙ e)) q) refl)
  joined_first left right (Err found) (Ok other) fault join parts p q some h =
      subst (λ x. Tests scope t (Some x)) (sym h) (ch.joined t left right (Some found) None (Some found) join parts (tested scope left found (λ e. some (h ∙ e)) p) q.tests refl)
  joined_first left right (Err found) (Err later) fault join parts p q some h =
      subst (λ x. Tests scope t (Some x)) (sym h.0) (ch.joined t left right (Some found) (Some later) (Some found) join parts (tested scope left found (λ e. some (h.0 ∙ e)) p) (tested scope right later h.1 q) refl)

  pub joined_faulty : (left right : Tree) (l r : Result Pred CompileFault) (fault : CompileFault) → is_junction (out-Tree t).node ≡ true → (out-Tree t).parts ≡ left ∷ right ∷ []
      → PredAnswer scope texts left l → PredAnswer scope texts right r → (fault ≢ f.Memory → FirstFault l r fault) → Faulty scope t fault
  joined_faulty left right l r fault join parts p q h = faulty scope t fault (λ some. joined_first left right l r fault join parts p q some (h some))

  -- ---- not a predicate

  pub denied_is : (part : Tree) (inner : Pred) (r : Result Pred CompileFault) → (out-Tree t).node ≡ n.Not → (out-Tree t).parts ≡ part ∷ [] → PredAnswer scope texts part (Ok inner)
      → MadePredAnswer None (λ e b. Some (not (holds inner e b))) (λ r. IsComparable r inner) r → PredAnswer scope texts t r
  denied_is part inner r is parts p h =
      made None (λ e b. Some (not (holds inner e b))) (λ r. IsComparable r inner) r h p.comparable (ch.denied t part None is parts p.tests)
      (λ e b found same. let e2 : found ≡ not (holds inner e b) = cc in m.denied t part (holds inner e b) found is parts (p.holds_as e b) e2)

  pub denied_faulty : (part : Tree) (fault : CompileFault) → (out-Tree t).node ≡ n.Not → (out-Tree t).parts ≡ part ∷ [] → Faulty scope part fault → Faulty scope t fault
  denied_faulty part fault is parts p = faulty scope t fault (λ some. ch.denied t part (Some fault) is parts (tested scope part fault some p))

  -- what AND or OR makes of any two sides
  pub joint_is : (left right : Tree) (l r made : Result Pred CompileFault) → is_junction (out-Tree t).node ≡ true → (out-Tree t).parts ≡ left ∷ right ∷ []
      → PredAnswer scope texts left l → PredAnswer scope texts right r → JointAnswer (out-Tree t).node l r made → PredAnswer scope texts t made
  joint_is left right (Ok one) (Ok other) made is parts p q h = joined_is left right one other made is parts p q h
  joint_is left right (Ok one) (Err found) (Ok made) is parts p q h = absurd h
  joint_is left right (Ok one) (Err found) (Err fault) is parts p q h = joined_faulty left right (Ok one) (Err found) fault is parts p q h
  joint_is left right (Err found) (Ok other) (Ok made) is parts p q h = absurd h
  joint_is left right (Err found) (Ok other) (Err fault) is parts p q h = joined_faulty left right (Err found) (Ok other) fault is parts p q h
  joint_is left right (Err found) (Err later) (Ok made) is parts p q h = absurd h
  joint_is left right (Err found) (Err later) (Err fault) is parts p q h = joined_faulty left right (Err found) (Err later) fault is parts p q h

  -- what NOT makes of any predicate
  pub negation_is : (part : Tree) (inner made : Result Pred CompileFault) → (out-Tree t).node ≡ n.Not → (out-Tree t).parts ≡ part ∷ [] → PredAnswer scope texts part inner
      → NegationAnswer inner made → PredAnswer scope texts t made
  negation_is part (Ok inner) made is parts p h = denied_is part inner made is parts p h
  negation_is part (Err fault) made is parts p h = subst (PredAnswer scope texts t) (sym h) (denied_faulty part fault is parts p)

  -- a predicate that is there stays within bounds
  pub is_within : (r : Result Pred CompileFault) → PredAnswer scope texts t r → IfOk r PredWithin
  is_within (Ok p) h = h.within
  is_within (Err fault) h = tt
