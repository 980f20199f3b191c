-- What an item may read is what may be read of the first query's plan, with all its names bound.
use Rattle.std.proofs.Common.{◌≡◌, ℕ, zero, suc, ◌+◌, ◌<◌, ◌≤◌, Bool, true, false, ◌||◌, ◌==◌, cond, List, [], ◌∷◌, length, map, refl, sym, ◌∙◌, ap, subst, arith}
use Rattle.std.specs.Prelude.{slice_get, nat_lt}
use Rattle.std.specs.List.{All, list_any, flat_map, range_with_len}
use Rattle.std.proofs.lemmas.Bool.{or_parts}
use Rattle.std.proofs.lemmas.Bool.Decides.{nat_tests}
use Rattle.std.proofs.lemmas.List.{length-map}
use Rattle.std.proofs.lemmas.List.Concat.{flat_map-cons}
use Rattle.std.proofs.lemmas.List.Elements.{All-nil, All-cons, All-head, All-tail}
use Rattle.std.proofs.lemmas.List.Folds.{list_any-append}
use Rattle.std.proofs.lemmas.List.Sums.{count_by-le-length}
use Rattle.sp_base.specs.Numbers.{is_among}
use Rattle.sp_lex.specs.declared.token.Word.TheVariants as w
use Rattle.sp_plan.specs.declared.plan.Column.{Column}
use Rattle.sp_plan.specs.declared.plan.Element.{Element}
use Rattle.sp_plan.specs.declared.plan.Element.TheVariants as el
use Rattle.sp_plan.specs.declared.plan.Expr.{Expr, Literal, Word, Column as At, Earlier, Raise', Minus', Add', Sub', Mul'}
use Rattle.sp_plan.specs.declared.plan.Kind.{Kind}
use Rattle.sp_plan.specs.declared.plan.Kind.TheVariants as k
use Rattle.sp_plan.specs.declared.plan.Plan.{Plan}
use Rattle.sp_plan.specs.Comparable.{Readable, MayRead, ColumnOfScale, ColumnOfTexts, IsText, HasScale}
use Rattle.sp_plan.specs.Compiled.{IsCompiled, IsKind, numbers_of, readable}
use Rattle.sp_plan.specs.Runs.{binds, names_of}
use Rattle.sp_query.specs.declared.query.Ident.{Ident}
use Rattle.sp_query.specs.declared.query.QueryColumn.{QueryColumn}
use Rattle.sp_compile.specs.Answers.{AreNamed, readable_in}
use Rattle.sp_compile.specs.Scopes.{AreOrdered, binding_from, PatternName}
use Rattle.sp_compile.specs.Stands.{kind_of, plan_column}
use Rattle.sp_graph.specs.Returns.{IsOfKind}
use Rattle.sp_returns.specs.Scopes.{word_of, digits_of, query_column, is_never, named_from, ident_of, idents_of, item_scope}

-- ---- columns

kind_again : (kind : Kind) → kind_of (word_of kind) (digits_of kind) ≡ kind
kind_again k.Int = refl
kind_again (k.Dec digits) = refl
kind_again k.Text = refl

column_again : (column : Column) → plan_column (query_column column) ≡ column
column_again column = λ i. record { name = column.name; kind = kind_again column.kind i }

pub columns_again : (columns : List Column) → map plan_column (map query_column columns) ≡ columns
columns_again [] = refl
columns_again (column ∷ columns) = λ i. column_again column i ∷ columns_again columns i

-- ---- names

pub many_names : (elements : List Element) (at : ℕ) (idents : List Ident) → length (named_from elements at idents) ≡ length idents
many_names elements at [] = refl
many_names elements at (ident ∷ idents) = let more = many_names elements (suc at) idents in omega arith

same_number : (m n : ℕ) → (m == n) ≡ true → n ≡ m
same_number m n h = grind (arith, nat_tests)

equal_itself : (n : ℕ) → (n == n) ≡ true
equal_itself n = grind (arith, nat_tests)

one_unnegated : (elements : List Element) (rest : List ℕ) (at n : ℕ) (b c : Bool) → list_any (is_never at) elements ≡ b → (at == n) ≡ c → (is_among rest n ≡ true → list_any (is_never n) elements ≡ false)
    → is_among (cond b rest (at ∷ rest)) n ≡ true → list_any (is_never n) elements ≡ false
one_unnegated elements rest at n true c e is of h = of h
one_unnegated elements rest at n false true e is of h = ap (λ (m : ℕ). list_any (is_never m) elements) (same_number at n is) ∙ e
one_unnegated elements rest at n false false e is of h = of (sym (ap (λ (b : Bool). b || is_among rest n) is) ∙ h)

-- a number that is among those that aren't negated isn't
unnegated : (elements : List Element) (idents : List Ident) (at n : ℕ) → is_among (binding_from at (named_from elements at idents)) n ≡ true → list_any (is_never n) elements ≡ false
unnegated elements [] at n h = absurd (cc h)
unnegated elements (ident ∷ idents) at n h =
    one_unnegated elements (binding_from (suc at) (named_from elements (suc at) idents)) at n (list_any (is_never at) elements) (at == n) refl refl (unnegated elements idents (suc at) n) h

one_among : (first k : ℕ) (rest b : Bool) → (first == k) ≡ b → (first < k → rest ≡ true) → first ≤ k → (b || rest) ≡ true
one_among first k rest true e of least = refl
one_among first k rest false e of least = let less : first < k = grind (arith, nat_tests) in of less

-- each number is among as many from one on
among_range : (first n k : ℕ) → first ≤ k → k < first + n → is_among (range_with_len first n) k ≡ true
among_range first zero k least most = absurd (omega arith)
among_range first (suc n) k least most =
    one_among first k (is_among (range_with_len (first + 1) n) k) (first == k) refl (λ less. among_range (first + 1) n k (omega arith) (omega arith)) least

either : (a b c : Bool) → (b ≡ true → c ≡ true) → (a || b) ≡ true → (a || c) ≡ true
either true b c of h = refl
either false b c of h = of h

-- a negated name is no other
other : (a b c : Bool) → a ≡ false → (b ≡ true → c ≡ true) → ((a || false) || b) ≡ true → c ≡ true
other true b c e of h = absurd (cc e)
other false b c e of h = of h

-- whether one of an element's names binds events, or a later one
one_binds : (element : Element) (n : ℕ) (rest bound : Bool) → is_never n element ≡ false → (rest ≡ true → bound ≡ true) → (is_among (names_of element) n || rest) ≡ true → (is_among (binds element) n || bound) ≡ true
one_binds (el.One a) n rest bound e of h = either (is_among (a ∷ []) n) rest bound of h
one_binds (el.Plus a) n rest bound e of h = either (is_among (a ∷ []) n) rest bound of h
one_binds (el.Set first count) n rest bound e of h = either (is_among (range_with_len first count) n) rest bound of h
one_binds (el.Never a) n rest bound e of h = other (a == n) rest bound e of h

-- a name of an element, which isn't negated, binds events
binds_it : (elements : List Element) (n : ℕ) → is_among (numbers_of elements) n ≡ true → list_any (is_never n) elements ≡ false → is_among (flat_map binds elements) n ≡ true
binds_it [] n h f = absurd (cc h)
binds_it (element ∷ elements) n h f =
    let parts = or_parts (is_never n element) (list_any (is_never n) elements) f in
    let split : (is_among (names_of element) n || is_among (numbers_of elements) n) ≡ true = sym (list_any-append (λ (m : ℕ). m == n) (names_of element) (numbers_of elements)) ∙ h in
    let joined : is_among (flat_map binds (element ∷ elements)) n ≡ (is_among (binds element) n || is_among (flat_map binds elements) n) =
    ap (λ (l : List ℕ). is_among l n) (flat_map-cons binds element elements) ∙ list_any-append (λ (m : ℕ). m == n) (binds element) (flat_map binds elements) in
    joined ∙ one_binds element n (is_among (numbers_of elements) n) (is_among (flat_map binds elements) n) parts.0 (λ m. binds_it elements n m parts.1) split

-- ---- what the checks of columns and names have shown

few_digits : (kind : Kind) → IsKind kind → word_of kind ≡ w.Dec → digits_of kind ≤ 6
few_digits k.Int h e = omega arith
few_digits (k.Dec digits) h e = h.1
few_digits k.Text h e = omega arith

abbrev Digits : QueryColumn → Type 0
Digits column = column.kind ≡ w.Dec → column.digits ≤ 6

all_digits : (columns : List Column) → All (λ column. IsKind column.kind) columns → All Digits (map query_column columns)
all_digits [] h = All-nil Digits
all_digits (column ∷ columns) h = All-cons Digits (query_column column) (map query_column columns) (few_digits column.kind (All-head (λ (one : Column). IsKind one.kind) column columns h))
    (all_digits columns (All-tail (λ (one : Column). IsKind one.kind) column columns h))

ordered : (elements : List Element) (at : ℕ) (idents : List Ident) → AreOrdered (named_from elements at idents)
ordered elements at [] = tt
ordered elements at (ident ∷ idents) = (λ i d inside. omega arith, ordered elements (suc at) idents)

pub item_named : (from : Plan) → IsCompiled from → AreNamed (item_scope from).columns (item_scope from).names
item_named from compiled =
    let wide : length (map query_column from.schema.columns) ≡ length from.schema.columns = length-map from.schema.columns query_column in
    let many : length (named_from from.elements 0 (idents_of from.names)) ≡ length from.names = many_names from.elements 0 (idents_of from.names) ∙ length-map from.names (λ name. ident_of name.text) in
    record {
      columns = omega (arith, wide, compiled.columns);
      digits = all_digits from.schema.columns compiled.kinds;
      names = omega (arith, many, compiled.names);
      ordered = ordered from.elements 0 (idents_of from.names);
    }

-- ---- expressions

-- The same columns and texts, and at least these names.
record Wider (r s : Readable) : Type 0 where
  columns : r.columns ≡ s.columns
  texts : r.texts ≡ s.texts
  names : (n : ℕ) → MayRead r n → MayRead s n

module _ (r s : Readable) (w : Wider r s) where
  text_more : (expr : Expr) → IsText r expr → IsText s expr
  text_more (Literal n) h = absurd h
  text_more (Word n) h = subst (λ (m : ℕ). n < m) w.texts h
  text_more (At place) h = subst (λ (l : List Column). ColumnOfTexts (slice_get l place)) w.columns h
  text_more (Earlier name place) h = (w.names name h.0, subst (λ (l : List Column). ColumnOfTexts (slice_get l place)) w.columns h.1)
  text_more (Raise' by p inner) h = absurd h
  text_more (Minus' p inner) h = absurd h
  text_more (Add' p left q right) h = absurd h
  text_more (Sub' p left q right) h = absurd h
  text_more (Mul' p left q right) h = absurd h

  scale_more : (expr : Expr) (scale : ℕ) → HasScale r expr scale → HasScale s expr scale
  scale_more (Literal n) scale h = h
  scale_more (Word n) scale h = absurd h
  scale_more (At place) scale h = subst (λ (l : List Column). ColumnOfScale scale (slice_get l place)) w.columns h
  scale_more (Earlier name place) scale h = (w.names name h.0, subst (λ (l : List Column). ColumnOfScale scale (slice_get l place)) w.columns h.1)
  scale_more (Raise' by p inner) scale h = (h.0, h.1, scale_more inner h.0 h.2)
  scale_more (Minus' p inner) scale h = scale_more inner scale h
  scale_more (Add' p left q right) scale h = (scale_more left scale h.0, scale_more right scale h.1)
  scale_more (Sub' p left q right) scale h = (scale_more left scale h.0, scale_more right scale h.1)
  scale_more (Mul' p left q right) scale h = (h.0, h.1, h.2, scale_more left h.0 h.3, scale_more right h.1 h.4)

  kind_more : (kind : Kind) (expr : Expr) → IsOfKind r kind expr → IsOfKind s kind expr
  kind_more k.Int expr h = scale_more expr 0 h
  kind_more (k.Dec digits) expr h = scale_more expr digits h
  kind_more k.Text expr h = text_more expr h

item_reads : (from : Plan) → IsCompiled from → Wider (readable_in (item_scope from) from.texts) (readable from (length from.names))
item_reads from compiled = record {
  columns = columns_again from.schema.columns;
  texts = refl;
  names = λ n may.
      let names = named_from from.elements 0 (idents_of from.names) in
      let few = count_by-le-length (λ (name : PatternName). nat_lt name.element 1) names in
      let many : length names ≡ length from.names = many_names from.elements 0 (idents_of from.names) ∙ length-map from.names (λ name. ident_of name.text) in
      let inside : n < length from.names = omega (arith, may.0, few, many) in
      (inside, binds_it from.elements n (ap (λ (l : List ℕ). is_among l n) compiled.elements ∙ among_range 0 (length from.names) n (omega arith) (omega arith)) (unnegated from.elements (idents_of from.names) 0 n may.1));
}

-- an expression for a column of this kind, by what an item may read
pub item_kind : (from : Plan) → IsCompiled from → (kind : Kind) (expr : Expr) → IsOfKind (readable_in (item_scope from) from.texts) kind expr → IsOfKind (readable from (length from.names)) kind expr
item_kind from compiled = kind_more (readable_in (item_scope from) from.texts) (readable from (length from.names)) (item_reads from compiled)
