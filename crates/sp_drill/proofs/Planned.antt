-- The drill's query has a plan: its checks find no fault, and the plan stands for it and keeps every limit.
use Rattle.std.proofs.Common.{◌≡◌, ◌≢◌, ℕ, ℤ, pos, ◌*ℤ◌, ◌<◌, Bool, true, false, List, [], ◌∷◌, ◌++◌, Some, None, Ok, inl, inr, refl, sym, ap, subst, arith, lit<, lit≤, codes, nat_lt}
use Rattle.std.specs.List.{All}
use Rattle.std.specs.Str.{IsUtf8, bytes_eq}
use Rattle.std.proofs.Math.IntN.{*ℤ-one, one}
use Rattle.std.proofs.lemmas.List.Elements.{All-nil, All-cons}
use Rattle.std.proofs.lemmas.List.Kept.{AllPairs-cons}
use Rattle.std.proofs.lemmas.Slice.Eq.{bytes_eq-Decides}
use Rattle.sp_base.specs.Limits.{number_limit}
use Rattle.sp_plan.specs.declared.event.Event.{Event}
use Rattle.sp_plan.specs.declared.plan.Plan.{Plan}
use Rattle.sp_plan.specs.declared.plan.Name.{Name}
use Rattle.sp_plan.specs.declared.plan.Column as columns
use Rattle.sp_plan.specs.declared.plan.Kind.TheVariants.{Int, Dec, Text}
use Rattle.sp_plan.specs.declared.plan.Compare.{Compare}
use Rattle.sp_plan.specs.declared.plan.Compare.TheVariants.{Equal, Less, Greater}
use Rattle.sp_plan.specs.declared.plan.Select.TheVariants.{First}
use Rattle.sp_plan.specs.declared.plan.Element.TheVariants.{One, Plus}
use Rattle.sp_plan.specs.declared.plan.Length.TheVariants.{Events}
use Rattle.sp_plan.specs.declared.plan.Opening.TheVariants.{EveryEvents}
use Rattle.sp_plan.specs.declared.plan.Expr.{Word, Column, Earlier}
use Rattle.sp_plan.specs.declared.plan.Pred.{Pred, Test}
use Rattle.sp_plan.specs.Bounds.{PredWithin}
use Rattle.sp_plan.specs.Comparable.{IsComparable}
use Rattle.sp_plan.specs.Compiled.{AreApart, IsKind, IsSetOfMany, readable, IsCompiled}
use Rattle.sp_plan.specs.Values.{BoundEvents, column_of, earlier_column, last_bound, compares, holds}
use Rattle.sp_lex.specs.declared.token.Span.{Span}
use Rattle.sp_query.specs.declared.tree.Tree.{Tree, Tree-F, out-Tree, out-roll-Tree}
use Rattle.sp_query.specs.declared.tree.Node.{Node}
use Rattle.sp_query.specs.declared.tree.Node.TheVariants as n
use Rattle.sp_query.specs.Trees.{tree_at}
use Rattle.sp_compile.specs.declared.sort.Sort.{Sort}
use Rattle.sp_compile.specs.declared.sort.Sort.TheVariants as s
use Rattle.sp_compile.specs.Scopes.{Scope, pattern_names}
use Rattle.sp_compile.specs.Sorts.{constant_sort, earlier_sort, sides_fault}
use Rattle.sp_compile.specs.Checks as ch
use Rattle.sp_compile.specs.Checks.{Checks, Types, Tests, Defines, span_of}
use Rattle.sp_compile.specs.Meaning as m
use Rattle.sp_compile.specs.Meaning.{Datum, number, text, constant_datum, compared, Means, Truth}
use Rattle.sp_compile.specs.Stands as st
use Rattle.sp_compile.specs.Stands.{Literals, literal_of, HoldsAs, Stands}
use Rattle.sp_compile.specs.Told.{IsPlanOf}
use Rattle.sp_load.specs.Queries.{IsPlanFor}
use Rattle.sp_drill.specs.Drill.{drill_columns}
use Rattle.sp_drill.specs.Query.{drill_query}
use Rattle.sp_drill.proofs.Parsed.{query, is_query, symbol_column, price_column}

-- ---- the plan

-- sym = 'AA'
abbrev symbol_is : Pred
symbol_is = Test Equal (Column 1) (Word 0)

-- the price, held against that of the event of A
abbrev price_is : Compare → Pred
price_is by = Test by (Column 2) (Earlier 0 2)

abbrev name : List ℕ → Pred → Name
name bytes pred = record { text = bytes; pred = pred; consumed = true }

abbrev a : Name
a = name (codes "A") symbol_is

abbrev b : Name
b = name (codes "B") (price_is Less)

abbrev c : Name
c = name (codes "C") (price_is Greater)

abbrev pub plan : Plan
plan = record {
  schema = record { columns = drill_columns; time = Some 0 };
  names = a ∷ b ∷ c ∷ [];
  elements = One 0 ∷ Plus 1 ∷ One 2 ∷ [];
  select = First;
  length = Events 40;
  opening = EveryEvents 10;
  texts = codes "AA" ∷ [];
}

-- ---- comparisons of two leaves, wherever they stand

node_is : (node : Node) (parts : List Tree) (span : Span) → (out-Tree (tree_at node parts span)).node ≡ node
node_is node parts span = ap (λ (t : Tree-F Tree). t.node) (out-roll-Tree (record { node = node; parts = parts; span = span }))

parts_are : (node : Node) (parts : List Tree) (span : Span) → (out-Tree (tree_at node parts span)).parts ≡ parts
parts_are node parts span = ap (λ (t : Tree-F Tree). t.parts) (out-roll-Tree (record { node = node; parts = parts; span = span }))

-- a tree without parts
abbrev leaf : Node → Span → Tree
leaf node span = tree_at node [] span

literals_of_leaf : (node : Node) (span : Span) (rest : List Tree) (others : List (List ℕ)) → Literals rest others → Literals (leaf node span ∷ rest) (literal_of node ++ others)
literals_of_leaf node span rest others d =
    st.some (leaf node span) rest [] others (literal_of node ++ others) (subst (λ trees. Literals trees []) (sym (parts_are node [] span)) st.none) d
    (ap (λ (m : Node). literal_of m ++ others) (sym (node_is node [] span)))

-- a comparison of two of them
module _ (by : Compare) (left right : Node) (x y z : Span) where
  abbrev sides : List Tree
  sides = leaf left x ∷ leaf right y ∷ []

  abbrev whole : Tree
  whole = tree_at (n.Test by) sides z

  root : (out-Tree whole).node ≡ n.Test by
  root = node_is (n.Test by) sides z

  parts : (out-Tree whole).parts ≡ sides
  parts = parts_are (n.Test by) sides z

  abbrev texts_of : List (List ℕ)
  texts_of = literal_of left ++ (literal_of right ++ [])

  tests_well : (scope : Scope) (one other : Sort) → Types scope (leaf left x) (Ok one) → Types scope (leaf right y) (Ok other)
      → None ≡ sides_fault by (span_of whole) (span_of (leaf left x)) (span_of (leaf right y)) one other → Tests scope whole None
  tests_well scope one other of_left of_right fine = ch.compared whole (leaf left x) (leaf right y) by (Ok one) (Ok other) None root parts of_left of_right fine

  is_true : (scope : Scope) (texts : List (List ℕ)) (event : Event) (bound : BoundEvents) (one other : Datum) (is : Bool) → Means scope texts event bound (leaf left x) one → Means scope texts event bound (leaf right y) other
      → compared by one other ≡ Some is → Truth scope texts event bound whole is
  is_true scope texts event bound one other is of_left of_right same = m.test whole (leaf left x) (leaf right y) by one other is root parts of_left of_right same

  -- its texts, and those of the trees behind it
  literals_with : (rest : List Tree) (others : List (List ℕ)) → Literals rest others → Literals (whole ∷ rest) (texts_of ++ others)
  literals_with rest others d =
      let both : Literals sides texts_of = literals_of_leaf left x (leaf right y ∷ []) (literal_of right ++ []) (literals_of_leaf right y [] [] st.none) in
      st.some whole rest texts_of others (texts_of ++ others) (subst (λ trees. Literals trees texts_of) (sym parts) both) d (ap (λ (node : Node). literal_of node ++ (texts_of ++ others)) (sym root))

-- ---- the predicates of the query

-- what the predicate of the element of this number may name
abbrev scope : ℕ → Scope
scope here = record { columns = query.columns; names = pattern_names query; here = Some here; at_hand = true; known = [] }

-- the price of the event of A
abbrev earlier : Node
earlier = n.Earlier (codes "A") (codes "price")

symbol_tests : (x y z : Span) → Tests (scope 0) (whole Equal (n.Own (codes "sym")) (n.Literal (codes "AA")) x y z) None
symbol_tests x y z =
    let left = n.Own (codes "sym") in
    let right = n.Literal (codes "AA") in
    tests_well Equal left right x y z (scope 0) s.Text s.Text
    (ch.own (leaf left x) (codes "sym") (Ok s.Text) (node_is left [] x) refl) (ch.constant (leaf right y) s.Text (Ok s.Text) (ap constant_sort (node_is right [] y)) refl) refl

price_tests : (here : ℕ) (by : Compare) (x y z : Span) → nat_lt 0 here ≡ true → Tests (scope here) (whole by (n.Own (codes "price")) earlier x y z) None
price_tests here by x y z behind =
    let left = n.Own (codes "price") in
    let sort = s.Number 2 number_limit in
    let sees : Ok sort ≡ earlier_sort (scope here) (span_of (leaf earlier y)) (codes "A") (codes "price") = rw behind refl in
    tests_well by left earlier x y z (scope here) sort sort
    (ch.own (leaf left x) (codes "price") (Ok sort) (node_is left [] x) refl) (ch.earlier (leaf earlier y) (codes "A") (codes "price") (Ok sort) (node_is earlier [] y) sees) refl

symbol_holds : (x y z : Span) → HoldsAs (scope 0) plan.texts (whole Equal (n.Own (codes "sym")) (n.Literal (codes "AA")) x y z) symbol_is
symbol_holds x y z event bound =
    let left = n.Own (codes "sym") in
    let right = n.Literal (codes "AA") in
    is_true Equal left right x y z (scope 0) plan.texts event bound (text (column_of 1 event)) (text (pos 0)) (holds symbol_is event bound)
    (m.own (leaf left x) (codes "sym") 1 symbol_column.value (text (column_of 1 event)) (node_is left [] x) refl refl refl)
    (m.constant (leaf right y) (text (pos 0)) (ap (constant_datum plan.texts) (node_is right [] y))) refl

times_one : (x : ℤ) → x *ℤ pos 1 ≡ x
unfolding one
times_one x = *ℤ-one x

price_holds : (here : ℕ) (by : Compare) (x y z : Span) → HoldsAs (scope here) plan.texts (whole by (n.Own (codes "price")) earlier x y z) (price_is by)
price_holds here by x y z event bound =
    let left = n.Own (codes "price") in
    let this = column_of 2 event in
    let that = earlier_column (last_bound 0 bound) 2 in
    is_true by left earlier x y z (scope here) plan.texts event bound (number this 2) (number that 2) (holds (price_is by) event bound)
    (m.own (leaf left x) (codes "price") 2 price_column.value (number this 2) (node_is left [] x) refl refl refl)
    (m.earlier (leaf earlier y) (codes "A") (codes "price") 0 2 price_column.value (number that 2) (node_is earlier [] y) refl refl refl refl)
    (λ i. Some (compares by (times_one this i) (times_one that i)))

-- ---- no fault

defines : Defines query [] query.defines None
defines =
    ch.fine _ _ _ _ None refl (symbol_tests _ _ _)
    (ch.fine _ _ _ _ None refl (price_tests 1 Less _ _ _ refl)
    (ch.fine _ _ _ _ None refl (price_tests 2 Greater _ _ _ refl) (ch.none _)))

checks : Checks query None
checks = ch.goes None refl (ch.goes None refl (ch.goes None refl (ch.goes None defines (ch.goes None refl (ch.goes None refl refl)))))

-- ---- the plan stands for the query

stands : Stands plan query
stands = record {
  columns = refl;
  time = refl;
  literals = codes "AA" ∷ [];
  of_trees = literals_with Equal _ _ _ _ _ _ _ (literals_with Less _ _ _ _ _ _ _ (literals_with Greater _ _ _ _ _ _ _ st.none));
  texts = refl;
  names = (
    record { text = refl; pred = symbol_holds _ _ _; consumed = refl },
    (record { text = refl; pred = price_holds 1 Less _ _ _; consumed = refl }, (record { text = refl; pred = price_holds 2 Greater _ _ _; consumed = refl }, tt)),
  );
  elements = refl;
  select = refl;
  length = refl;
  opening = refl;
}

-- ---- the plan keeps the limits

unlike : (one other : List ℕ) → bytes_eq one other ≡ false → one ≢ other
unlike one other fails same = let passes : bytes_eq one other ≡ true = (bytes_eq-Decides one other).1 same in absurd (cc (fails, passes))

all_three : {X : Type 0} (P : X → Type 0) (x y z : X) → P x → P y → P z → All P (x ∷ y ∷ z ∷ [])
all_three P x y z one two three = All-cons P x (y ∷ z ∷ []) one (All-cons P y (z ∷ []) two (All-cons P z [] three (All-nil P)))

apart_none : AreApart []
apart_none i j d before inside = absurd (omega arith)

apart_one : (x : List ℕ) → AreApart (x ∷ [])
apart_one x = AllPairs-cons (λ one other. one ≢ other) x [] (All-nil (λ y. x ≢ y)) apart_none

apart_three : (x y z : List ℕ) → bytes_eq x y ≡ false → bytes_eq x z ≡ false → bytes_eq y z ≡ false → AreApart (x ∷ y ∷ z ∷ [])
apart_three x y z xy xz yz =
    let of_x : All (λ t. x ≢ t) (y ∷ z ∷ []) = All-cons (λ t. x ≢ t) y (z ∷ []) (unlike x y xy) (All-cons (λ t. x ≢ t) z [] (unlike x z xz) (All-nil (λ t. x ≢ t))) in
    let of_y : All (λ t. y ≢ t) (z ∷ []) = All-cons (λ t. y ≢ t) z [] (unlike y z yz) (All-nil (λ t. y ≢ t)) in
    AllPairs-cons (λ one other. one ≢ other) x (y ∷ z ∷ []) of_x (AllPairs-cons (λ one other. one ≢ other) y (z ∷ []) of_y (apart_one z))

price_reads : (first : ℕ) (by : Compare) → 0 < first → IsComparable (readable plan first) (price_is by)
price_reads first by some = inr (record { scale = 2; within = lit≤ tt; left_is = refl; right_is = ((some, refl), refl) })

compiled : IsCompiled plan
compiled =
    let is_column = λ (x : columns.Column). IsKind x.kind in
    let is_name = λ (n : Name). PredWithin n.pred in
    let reads = λ (first : ℕ) (n : Name). IsComparable (readable plan first) n.pred in
    let one_reads = λ (first : ℕ) (n : Name) (is : IsComparable (readable plan first) n.pred). All-cons (reads first) n [] is (All-nil (reads first)) in
    record {
      columns = lit≤ tt;
      columns_apart = apart_three (codes "at") (codes "sym") (codes "price") refl refl refl;
      kinds = all_three is_column (record { name = codes "at"; kind = Int }) (record { name = codes "sym"; kind = Text }) (record { name = codes "price"; kind = Dec 2 }) tt tt (lit≤ tt, lit≤ tt);
      time = (record { name = codes "at"; kind = Int }, refl, refl);
      names = lit≤ tt;
      some_name = lit< tt;
      names_apart = apart_three (codes "A") (codes "B") (codes "C") refl refl refl;
      elements = refl;
      sets = all_three IsSetOfMany (One 0) (Plus 1) (One 2) tt tt tt;
      first = tt;
      last = tt;
      preds = all_three is_name a b c (tt, lit≤ tt) (tt, tt) (tt, tt);
      reads = (
        one_reads 0 a (inl (record { equality = tt; left_is = tt; right_is = lit< tt })),
        (one_reads 1 b (price_reads 1 Less (lit< tt)), (one_reads 2 c (price_reads 2 Greater (lit< tt)), tt)),
      );
      opening = tt;
      opening_reads = tt;
      windowed = record { length_is = (lit< tt, lit≤ tt); opening_is = (lit< tt, lit≤ tt, lit≤ tt) };
      timed = tt;
      texts_apart = apart_one (codes "AA");
    }

-- ---- the whole

pub is_plan_of : IsPlanOf plan query
is_plan_of = record { checks = checks; stands = stands; compiled = compiled }

is_text : IsUtf8 drill_query
unfolding drill_query lib.Utf8.encode
is_text = (drill_query, (refl, refl))

pub is_plan : IsPlanFor drill_query plan
is_plan = record { utf8 = is_text; query = query; is_query = is_query; is_plan = is_plan_of }
