-- What is known of an expression, by what is known of its parts.
use Rattle.std.proofs.Common.{◌≡◌, ◌≢◌, ℕ, ◌≤◌, ◌<◌, Bool, true, false, ◌||◌, List, [], ◌∷◌, length, get_or, Option, Some, None, Result, Ok, Err, IfOk, slice_get, if◌then◌else◌, refl, sym, ◌∙◌, ap, subst, arith}
use Rattle.sp_plan.specs.declared.event.Event.{Event}
use Rattle.sp_plan.specs.declared.plan.Expr.{Expr}
use Rattle.sp_plan.specs.Comparable.{Readable}
use Rattle.sp_plan.specs.Values.{BoundEvents, column_of, earlier_column, last_bound}
use Rattle.sp_query.specs.declared.tree.Tree.{Tree, out-Tree}
use Rattle.sp_query.specs.declared.tree.Node.{Node}
use Rattle.sp_query.specs.declared.tree.Node.TheVariants as n
use Rattle.sp_query.specs.declared.query.QueryColumn.{QueryColumn}
use Rattle.sp_compile.specs.declared.fault.CompileFault.{CompileFault}
use Rattle.sp_compile.specs.declared.fault.CompileFault.TheVariants as f
use Rattle.sp_compile.specs.declared.sort.Sort.{Sort}
use Rattle.sp_compile.specs.Scopes.{Scope, column_place, name_place}
use Rattle.sp_compile.specs.Sorts.{Verdict, own_sort, earlier_sort, constant_sort, is_listed, known_sort, is_arithmetic, operator_sort, binary_sort, negative_sort}
use Rattle.sp_compile.specs.Checks as ch
use Rattle.sp_compile.specs.Checks.{Types, span_of}
use Rattle.sp_compile.specs.Meaning as m
use Rattle.sp_compile.specs.Meaning.{Datum, Means, constant_datum, datum_of, combined, negative}
use Rattle.sp_compile.specs.Answers.{Untyped, ExprAnswer, HasSort, ReadsEarlier, readable_in}
use Rattle.sp_compile.specs.Parts.{comes_to, Anyway, BothEarlier, BothSorted, Reads, Refused, MadeAnswer, NumberAnswer, TextAnswer, column_datum, placed_datum, own_datum, bound_datum, earlier_datum, FirstFault, IsSound, NegativeAnswer, OperationAnswer}

-- ---- the parts of a tree

pub one_part : (xs : List Tree) (x : Tree) → 1 ≤ length xs → length xs < 2 → x ≡ get_or xs 0 x → xs ≡ x ∷ []
one_part [] x l u e = absurd (omega arith)
one_part (y ∷ []) x l u e = ap (λ z. z ∷ []) (sym e)
one_part (y ∷ z ∷ xs) x l u e = absurd (omega arith)

pub two_parts : (xs : List Tree) (x y : Tree) → 2 ≤ length xs → length xs < 3 → x ≡ get_or xs 0 x → y ≡ get_or xs 1 y → xs ≡ x ∷ y ∷ []
two_parts [] x y l u e d = absurd (omega arith)
two_parts (z ∷ []) x y l u e d = absurd (omega arith)
two_parts (z ∷ w ∷ []) x y l u e d = ap (λ k. k ∷ w ∷ []) (sym e) ∙ ap (λ k. x ∷ k ∷ []) (sym d)
two_parts (z ∷ w ∷ v ∷ xs) x y l u e d = absurd (omega arith)

-- ---- faults that are not want of memory

pub untyped : (scope : Scope) (t : Tree) (fault : CompileFault) → (fault ≢ f.Memory → Types scope t (Err fault)) → Untyped scope t fault
untyped scope t (f.Unknown span) h = h (λ e. cc)
untyped scope t (f.Twice span) h = h (λ e. cc)
untyped scope t (f.WrongKind span) h = h (λ e. cc)
untyped scope t (f.PlusLast span) h = h (λ e. cc)
untyped scope t (f.LateReference span) h = h (λ e. cc)
untyped scope t (f.TooWide span) h = h (λ e. cc)
untyped scope t (f.BadWindow span) h = h (λ e. cc)
untyped scope t (f.TooMany span) h = h (λ e. cc)
untyped scope t (f.NeverEnds span) h = h (λ e. cc)
untyped scope t (f.NeverBound span) h = h (λ e. cc)
untyped scope t f.Memory h = tt

pub typed : (scope : Scope) (t : Tree) (fault : CompileFault) → fault ≢ f.Memory → Untyped scope t fault → Types scope t (Err fault)
typed scope t (f.Unknown span) some h = h
typed scope t (f.Twice span) some h = h
typed scope t (f.WrongKind span) some h = h
typed scope t (f.PlusLast span) some h = h
typed scope t (f.LateReference span) some h = h
typed scope t (f.TooWide span) some h = h
typed scope t (f.BadWindow span) some h = h
typed scope t (f.TooMany span) some h = h
typed scope t (f.NeverEnds span) some h = h
typed scope t (f.NeverBound span) some h = h
typed scope t f.Memory some h = absurd (some refl)

pub refused_by : (verdict : Verdict) (fault : CompileFault) → fault ≢ f.Memory → Refused verdict fault → verdict ≡ Err fault
refused_by verdict (f.Unknown span) some h = h
refused_by verdict (f.Twice span) some h = h
refused_by verdict (f.WrongKind span) some h = h
refused_by verdict (f.PlusLast span) some h = h
refused_by verdict (f.LateReference span) some h = h
refused_by verdict (f.TooWide span) some h = h
refused_by verdict (f.BadWindow span) some h = h
refused_by verdict (f.TooMany span) some h = h
refused_by verdict (f.NeverEnds span) some h = h
refused_by verdict (f.NeverBound span) some h = h
refused_by verdict f.Memory some h = absurd (some refl)

either_way : (a b : Bool) → b ≡ true → a || b ≡ true
either_way true b h = refl
either_way false b h = h

module _ (scope : Scope) (texts : List (List ℕ)) (t : Tree) where
  -- ---- from verdicts and data to trees

  made : (verdict : Verdict) (meant : Event → BoundEvents → Option Datum) (parts : Readable → Type 0) (without : Type 0) (r : Result (Expr × Sort) CompileFault) → MadeAnswer verdict meant parts without r
      → parts (readable_in scope texts) → (scope.at_hand ≡ false → without) → Types scope t verdict → ((e : Event) (b : BoundEvents) (d : Datum) → meant e b ≡ Some d → Means scope texts e b t d) → ExprAnswer scope texts t r
  made verdict meant parts without (Ok p) h known free types means = record {
    types = subst (Types scope t) h.sort types;
    bounded = h.sound.bounded;
    within = h.sound.within;
    sorted = h.sorted (readable_in scope texts) known;
    reads = λ none. h.reads (free none);
    means = λ e b. means e b (comes_to p e b) (h.comes e b);
  }
  made verdict meant parts without (Err fault) h known free types means = untyped scope t fault (λ some. subst (Types scope t) (refused_by verdict fault some h) types)

  -- ---- constants

  constant : (node : Node) (sort : Sort) (datum : Datum) (parts : Readable → Type 0) (r : Result (Expr × Sort) CompileFault) → (out-Tree t).node ≡ node → constant_sort node ≡ Some sort → constant_datum texts node ≡ Some datum
      → MadeAnswer (known_sort scope (span_of t) node sort) (λ e b. Some datum) parts Anyway r → parts (readable_in scope texts) → ExprAnswer scope texts t r
  constant node sort datum parts r is one other h known =
      made (known_sort scope (span_of t) node sort) (λ e b. Some datum) parts Anyway r h known (λ none. tt)
      (ch.constant t sort (known_sort scope (span_of t) node sort) (ap constant_sort is ∙ one) (ap (λ (k : Node). known_sort scope (span_of t) k sort) (sym is)))
      (λ e b d same. m.constant t d (ap (constant_datum texts) is ∙ other ∙ same))

  -- a number is known in every scope
  number : (node : Node) (sort : Sort) (datum : Datum) (r : Result (Expr × Sort) CompileFault) → (out-Tree t).node ≡ node → constant_sort node ≡ Some sort → constant_datum texts node ≡ Some datum → is_listed scope.known node ≡ true
      → MadeAnswer (Ok sort) (λ e b. Some datum) (λ r. Unit {0}) Anyway r → ExprAnswer scope texts t r
  number node sort datum r is one other listed h =
      let any : scope.at_hand || is_listed scope.known node ≡ true = either_way scope.at_hand (is_listed scope.known node) listed in
      let same : known_sort scope (span_of t) node sort ≡ Ok sort = ap (λ (b : Bool). if b then Ok sort else Err (f.Unknown (span_of t))) any in
      constant node sort datum (λ r. Unit {0}) r is one other (subst (λ (v : Verdict). MadeAnswer v (λ e b. Some datum) (λ r. Unit {0}) Anyway r) (sym same) h) tt

  pub whole_is : (x : ℕ) (r : Result (Expr × Sort) CompileFault) → (out-Tree t).node ≡ n.Whole x → NumberAnswer x 0 r → ExprAnswer scope texts t r
  whole_is x r is h = number (n.Whole x) _ _ r is refl refl refl h

  pub decimal_is : (x k : ℕ) (r : Result (Expr × Sort) CompileFault) → (out-Tree t).node ≡ n.Decimal x k → NumberAnswer x k r → ExprAnswer scope texts t r
  decimal_is x k r is h = number (n.Decimal x k) _ _ r is refl refl refl h

  pub literal_is : (x : List ℕ) (r : Result (Expr × Sort) CompileFault) → (out-Tree t).node ≡ n.Literal x → TextAnswer scope texts (span_of t) x r → ExprAnswer scope texts t r
  literal_is x r is h = constant (n.Literal x) _ _ (λ r. r.texts ≡ length texts) r is refl refl h refl

  -- ---- columns

  own_there : (e : Event) (b : BoundEvents) (name : List ℕ) (place : ℕ) (column : Option QueryColumn) (d : Datum) → (out-Tree t).node ≡ n.Own name → column_place scope.columns name ≡ Some place
      → slice_get scope.columns place ≡ column → column_datum column (column_of place e) ≡ Some d → Means scope texts e b t d
  own_there e b name place None d is placed there h = absurd cc
  own_there e b name place (Some column) d is placed there h = let same : d ≡ datum_of column.kind column.digits (column_of place e) = cc in m.own t name place column d is placed there same

  own_placed : (e : Event) (b : BoundEvents) (name : List ℕ) (place : Option ℕ) (d : Datum) → (out-Tree t).node ≡ n.Own name → column_place scope.columns name ≡ place
      → placed_datum scope.columns place (λ place. column_of place e) ≡ Some d → Means scope texts e b t d
  own_placed e b name None d is placed h = absurd cc
  own_placed e b name (Some place) d is placed h = own_there e b name place (slice_get scope.columns place) d is placed refl h

  pub own_is : (name : List ℕ) (r : Result (Expr × Sort) CompileFault) → (out-Tree t).node ≡ n.Own name → MadeAnswer (own_sort scope (span_of t) name) (own_datum scope name) (Reads scope) (scope.at_hand ≡ false) r → ExprAnswer scope texts t r
  own_is name r is h = made (own_sort scope (span_of t) name) (own_datum scope name) (Reads scope) (scope.at_hand ≡ false) r h (refl, refl, refl) (λ none. none) (ch.own t name (own_sort scope (span_of t) name) is refl) (λ e b d same. own_placed e b name (column_place scope.columns name) d is refl same)

  earlier_there : (e : Event) (b : BoundEvents) (bound name : List ℕ) (number place : ℕ) (column : Option QueryColumn) (d : Datum) → (out-Tree t).node ≡ n.Earlier bound name → name_place scope.names bound ≡ Some number
      → column_place scope.columns name ≡ Some place → slice_get scope.columns place ≡ column → column_datum column (earlier_column (last_bound number b) place) ≡ Some d → Means scope texts e b t d
  earlier_there e b bound name number place None d is named placed there h = absurd cc
  earlier_there e b bound name number place (Some column) d is named placed there h =
      let same : d ≡ datum_of column.kind column.digits (earlier_column (last_bound number b) place) = cc in
      m.earlier t bound name number place column d is named placed there same

  earlier_placed : (e : Event) (b : BoundEvents) (bound name : List ℕ) (number place : Option ℕ) (d : Datum) → (out-Tree t).node ≡ n.Earlier bound name → name_place scope.names bound ≡ number
      → column_place scope.columns name ≡ place → bound_datum scope.columns number place b ≡ Some d → Means scope texts e b t d
  earlier_placed e b bound name None place d is named placed h = absurd cc
  earlier_placed e b bound name (Some number) None d is named placed h = absurd cc
  earlier_placed e b bound name (Some number) (Some place) d is named placed h = earlier_there e b bound name number place (slice_get scope.columns place) d is named placed refl h

  pub earlier_is : (bound name : List ℕ) (r : Result (Expr × Sort) CompileFault) → (out-Tree t).node ≡ n.Earlier bound name → MadeAnswer (earlier_sort scope (span_of t) bound name) (earlier_datum scope bound name) (Reads scope) Anyway r → ExprAnswer scope texts t r
  earlier_is bound name r is h =
      made (earlier_sort scope (span_of t) bound name) (earlier_datum scope bound name) (Reads scope) Anyway r h (refl, refl, refl) (λ none. tt) (ch.earlier t bound name (earlier_sort scope (span_of t) bound name) is refl)
      (λ e b d same. earlier_placed e b bound name (name_place scope.names bound) (column_place scope.columns name) d is refl refl same)

  -- ---- minus

  pub minus_is : (part : Tree) (inner : Expr × Sort) (r : Result (Expr × Sort) CompileFault) → (out-Tree t).node ≡ n.Minus → (out-Tree t).parts ≡ part ∷ [] → ExprAnswer scope texts part (Ok inner)
      → MadeAnswer (negative_sort (span_of t) inner.1) (λ e b. negative (comes_to inner e b)) (λ r. HasSort r inner.0 inner.1) (ReadsEarlier inner.0) r → ExprAnswer scope texts t r
  minus_is part inner r is parts p h =
      made (negative_sort (span_of t) inner.1) (λ e b. negative (comes_to inner e b)) (λ r. HasSort r inner.0 inner.1) (ReadsEarlier inner.0) r h p.sorted p.reads (ch.minus t part (Ok inner.1) (negative_sort (span_of t) inner.1) is parts p.types refl)
      (λ e b d same. m.minus t part (comes_to inner e b) d is parts (p.means e b) same)

  pub minus_fault : (part : Tree) (fault : CompileFault) → (out-Tree t).node ≡ n.Minus → (out-Tree t).parts ≡ part ∷ [] → Untyped scope part fault → Untyped scope t fault
  minus_fault part fault is parts p = untyped scope t fault (λ some. ch.minus t part (Err fault) (Err fault) is parts (typed scope part fault some p) refl)

  -- ---- sums, differences and products

  pub binary_is : (left right : Tree) (one other : Expr × Sort) (r : Result (Expr × Sort) CompileFault) → is_arithmetic (out-Tree t).node ≡ true → (out-Tree t).parts ≡ left ∷ right ∷ []
      → ExprAnswer scope texts left (Ok one) → ExprAnswer scope texts right (Ok other)
      → MadeAnswer (operator_sort (out-Tree t).node (span_of t) one.1 other.1) (λ e b. combined (out-Tree t).node (comes_to one e b) (comes_to other e b)) (BothSorted one other) (BothEarlier one other) r → ExprAnswer scope texts t r
  binary_is left right one other r is parts p q h =
      made (operator_sort (out-Tree t).node (span_of t) one.1 other.1) (λ e b. combined (out-Tree t).node (comes_to one e b) (comes_to other e b)) (BothSorted one other) (BothEarlier one other) r h (p.sorted, q.sorted) (λ none. (p.reads none, q.reads none))
      (ch.binary t left right (Ok one.1) (Ok other.1) (operator_sort (out-Tree t).node (span_of t) one.1 other.1) is parts p.types q.types refl)
      (λ e b d same. m.binary t left right (comes_to one e b) (comes_to other e b) d parts (p.means e b) (q.means e b) same)

  binary_types : (left right : Tree) (one other verdict : Verdict) → is_arithmetic (out-Tree t).node ≡ true → (out-Tree t).parts ≡ left ∷ right ∷ [] → Types scope left one → Types scope right other
      → verdict ≡ binary_sort (out-Tree t).node (span_of t) one other → Types scope t verdict
  binary_types left right one other verdict is parts p q e = ch.binary t left right one other verdict is parts p q e

  binary_first : (left right : Tree) (l r : Result (Expr × Sort) CompileFault) (fault : CompileFault) → is_arithmetic (out-Tree t).node ≡ true → (out-Tree t).parts ≡ left ∷ right ∷ []
      → ExprAnswer scope texts left l → ExprAnswer scope texts right r → fault ≢ f.Memory → FirstFault l r fault → Types scope t (Err fault)
  binary_first left right (Ok one) (Ok other) fault is parts p q some h = absurd h
  binary_first left right (Ok one) (Err found) fault is parts p q some h =
      subst (λ x. Types scope t (Err x)) (sym h) (binary_types left right (Ok one.1) (Err found) (Err found) is parts p.types (typed scope right found (λ e. some (h ∙ e)) q) refl)
  binary_first left right (Err found) (Ok other) fault is parts p q some h =
      subst (λ x. Types scope t (Err x)) (sym h) (binary_types left right (Err found) (Ok other.1) (Err found) is parts (typed scope left found (λ e. some (h ∙ e)) p) q.types refl)
  binary_first left right (Err found) (Err later) fault is parts p q some h =
      subst (λ x. Types scope t (Err x)) (sym h.0) (binary_types left right (Err found) (Err later) (Err found) is parts (typed scope left found (λ e. some (h.0 ∙ e)) p) (typed scope right later h.1 q) refl)

  pub binary_fault : (left right : Tree) (l r : Result (Expr × Sort) CompileFault) (fault : CompileFault) → is_arithmetic (out-Tree t).node ≡ true → (out-Tree t).parts ≡ left ∷ right ∷ []
      → ExprAnswer scope texts left l → ExprAnswer scope texts right r → (fault ≢ f.Memory → FirstFault l r fault) → Untyped scope t fault
  binary_fault left right l r fault is parts p q h = untyped scope t fault (λ some. binary_first left right l r fault is parts p q some (h some))

  -- what an operator makes of any two sides
  pub operation_is : (left right : Tree) (l r made : Result (Expr × Sort) CompileFault) → is_arithmetic (out-Tree t).node ≡ true → (out-Tree t).parts ≡ left ∷ right ∷ []
      → ExprAnswer scope texts left l → ExprAnswer scope texts right r → OperationAnswer t l r made → ExprAnswer scope texts t made
  operation_is left right (Ok one) (Ok other) made is parts p q h = binary_is left right one other made is parts p q h
  operation_is left right (Ok one) (Err found) (Ok made) is parts p q h = absurd h
  operation_is left right (Ok one) (Err found) (Err fault) is parts p q h = binary_fault left right (Ok one) (Err found) fault is parts p q h
  operation_is left right (Err found) (Ok other) (Ok made) is parts p q h = absurd h
  operation_is left right (Err found) (Ok other) (Err fault) is parts p q h = binary_fault left right (Err found) (Ok other) fault is parts p q h
  operation_is left right (Err found) (Err later) (Ok made) is parts p q h = absurd h
  operation_is left right (Err found) (Err later) (Err fault) is parts p q h = binary_fault left right (Err found) (Err later) fault is parts p q h

  -- what minus makes of any operand
  pub negative_is : (part : Tree) (inner made : Result (Expr × Sort) CompileFault) → (out-Tree t).node ≡ n.Minus → (out-Tree t).parts ≡ part ∷ [] → ExprAnswer scope texts part inner
      → NegativeAnswer (span_of t) inner made → ExprAnswer scope texts t made
  negative_is part (Ok inner) made is parts p h = minus_is part inner made is parts p h
  negative_is part (Err fault) made is parts p h = subst (ExprAnswer scope texts t) (sym h) (minus_fault part fault is parts p)

  -- an expression that is there is sound
  pub is_sound : (r : Result (Expr × Sort) CompileFault) → ExprAnswer scope texts t r → IfOk r IsSound
  is_sound (Ok p) h = record { bounded = h.bounded; within = h.within }
  is_sound (Err fault) h = tt
