-- What a compiled plan keeps, tried on a plan that keeps it and on plans that each break one part.
use Rattle.std.proofs.Common.{◌≡◌, ◌≢◌, ℕ, zero, suc, pos, ◌<◌, ◌≤◌, true, false, List, [], ◌∷◌, Some, None, inl, inr, refl, arith, lit<, lit≤}
use Rattle.std.specs.Prelude.{codes}
use Rattle.std.specs.List.{All}
use Rattle.std.specs.Str.{bytes_eq}
use Rattle.std.proofs.lemmas.List.Elements.{All-nil, All-cons}
use Rattle.std.proofs.lemmas.Slice.Eq.{bytes_eq-Decides}
use Rattle.sp_plan.specs.declared.plan.Plan.{Plan}
use Rattle.sp_plan.specs.declared.plan.Name.{Name}
use Rattle.sp_plan.specs.declared.plan.Column as columns
use Rattle.sp_plan.specs.declared.plan.Schema.{Schema}
use Rattle.sp_plan.specs.declared.plan.Kind.{Kind}
use Rattle.sp_plan.specs.declared.plan.Kind.TheVariants.{Int, Dec, Text}
use Rattle.sp_plan.specs.declared.plan.Compare.TheVariants.{Equal, Greater}
use Rattle.sp_plan.specs.declared.plan.Select.TheVariants.{First}
use Rattle.sp_plan.specs.declared.plan.Element.{Element}
use Rattle.sp_plan.specs.declared.plan.Element.TheVariants.{One, Plus, Set, Never}
use Rattle.sp_plan.specs.declared.plan.Length.{Length}
use Rattle.sp_plan.specs.declared.plan.Length.TheVariants.{Events, Time}
use Rattle.sp_plan.specs.declared.plan.Opening.TheVariants.{EveryEvents, When}
use Rattle.sp_plan.specs.declared.plan.Expr.{Literal, Word, Column, Earlier}
use Rattle.sp_plan.specs.declared.plan.Pred.{Pred, Always, Test}
use Rattle.sp_plan.specs.Bounds.{PredWithin}
use Rattle.sp_plan.specs.Comparable.{IsComparable}
use Rattle.sp_plan.specs.Compiled.{AreApart, IsKind, IsSetOfMany, readable, IsCompiled}

-- ---- a plan

abbrev column : List ℕ → Kind → columns.Column
column text kind = record { name = text; kind = kind }

-- columns of the time, a text, and a number of this kind
abbrev schema : Kind → Schema
schema kind = record { columns = column (codes "at") Int ∷ column (codes "k") Text ∷ column (codes "p") kind ∷ []; time = Some 0 }

abbrev name : List ℕ → Pred → Name
name text pred = record { text = text; pred = pred; consumed = false }

abbrev plan : Schema → List Name → List Element → Length → Plan
plan schema_of names elements length_of = record {
  schema = schema_of;
  names = names;
  elements = elements;
  select = First;
  length = length_of;
  opening = EveryEvents 5;
  texts = codes "x" ∷ [];
}

-- k = "x"
abbrev is_x : Pred
is_x = Test Equal (Column 1) (Word 0)

-- p > a.p
abbrev is_more : Pred
is_more = Test Greater (Column 2) (Earlier 0 2)

abbrev a : Name
a = name (codes "a") is_x

abbrev b : Name
b = name (codes "b") is_more

abbrev c : Name
c = name (codes "c") Always

-- a+ and then b and c in any order
abbrev names : List Name
names = a ∷ b ∷ c ∷ []

abbrev elements : List Element
elements = Plus 0 ∷ Set 1 2 ∷ []

abbrev good : Plan
good = plan (schema (Dec 2)) names elements (Events 10)

-- ---- it keeps everything

unlike : (one other : List ℕ) → bytes_eq one other ≡ false → one ≢ other
unlike one other fails same = let passes : bytes_eq one other ≡ true = (bytes_eq-Decides one other).1 same in absurd (cc (fails, passes))

all_one : {X : Type 0} (P : X → Type 0) (x : X) → P x → All P (x ∷ [])
all_one P x one = All-cons P x [] one (All-nil P)

all_two : {X : Type 0} (P : X → Type 0) (x y : X) → P x → P y → All P (x ∷ y ∷ [])
all_two P x y one two = All-cons P x (y ∷ []) one (all_one P y two)

all_three : {X : Type 0} (P : X → Type 0) (x y z : X) → P x → P y → P z → All P (x ∷ y ∷ z ∷ [])
all_three P x y z one two three = All-cons P x (y ∷ z ∷ []) one (all_two P y z two three)

apart_none : AreApart []
apart_none i j d before inside = absurd (omega arith)

apart_more : (x : List ℕ) (xs : List (List ℕ)) → All (λ y. x ≢ y) xs → AreApart xs → AreApart (x ∷ xs)
apart_more x xs here behind zero zero d before inside = absurd (omega arith)
apart_more x xs here behind zero (suc j) d before inside = here j d (omega arith)
apart_more x xs here behind (suc i) zero d before inside = absurd (omega arith)
apart_more x xs here behind (suc i) (suc j) d before inside = behind i j d (omega arith) (omega arith)

apart_three : (x y z : List ℕ) → bytes_eq x y ≡ false → bytes_eq x z ≡ false → bytes_eq y z ≡ false → AreApart (x ∷ y ∷ z ∷ [])
apart_three x y z xy xz yz =
    apart_more x (y ∷ z ∷ []) (all_two (λ t. x ≢ t) y z (unlike x y xy) (unlike x z xz))
    (apart_more y (z ∷ []) (all_one (λ t. y ≢ t) z (unlike y z yz)) (apart_more z [] (All-nil (λ t. z ≢ t)) apart_none))

-- a number of one column is compared with a number of another, a text with a text of the plan
x_reads : IsComparable (readable good 0) is_x
x_reads = inl (record { equality = tt; left_is = tt; right_is = lit< tt })

more_reads : IsComparable (readable good 1) is_more
more_reads = inr (record { scale = 2; within = lit≤ tt; left_is = refl; right_is = ((lit< tt, refl), refl) })

good_keeps : IsCompiled good
good_keeps =
    let digits : IsKind (Dec 2) = (lit≤ tt, lit≤ tt) in
    let is_column = λ (x : columns.Column). IsKind x.kind in
    let is_name = λ (n : Name). PredWithin n.pred in
    let at_first = λ (n : Name). IsComparable (readable good 0) n.pred in
    let at_second = λ (n : Name). IsComparable (readable good 1) n.pred in
    let x_within : PredWithin is_x = (tt, lit≤ tt) in
    let more_within : PredWithin is_more = (tt, tt) in
    record {
      columns = lit≤ tt;
      columns_apart = apart_three (codes "at") (codes "k") (codes "p") refl refl refl;
      kinds = all_three is_column (column (codes "at") Int) (column (codes "k") Text) (column (codes "p") (Dec 2)) tt tt digits;
      time = (column (codes "at") Int, refl, refl);
      names = lit≤ tt;
      some_name = lit< tt;
      names_apart = apart_three (codes "a") (codes "b") (codes "c") refl refl refl;
      elements = refl;
      sets = all_two IsSetOfMany (Plus 0) (Set 1 2) tt (lit≤ tt);
      first = tt;
      last = tt;
      preds = all_three is_name a b c x_within more_within tt;
      reads = (all_one at_first a x_reads, (all_two at_second b c more_reads tt, tt));
      opening = tt;
      opening_reads = tt;
      windowed = record { length_is = (lit< tt, lit≤ tt); opening_is = (lit< tt, lit≤ tt, lit≤ tt) };
      timed = tt;
      texts_apart = apart_more (codes "x") [] (All-nil (λ t. codes "x" ≢ t)) apart_none;
    }

-- ---- plans that no query has

-- a plan whose first name has this predicate
abbrev first_with : Pred → Plan
first_with pred = plan (schema (Dec 2)) (name (codes "a") pred ∷ b ∷ c ∷ []) elements (Events 10)

-- a length in time without a time
no_time : IsCompiled (plan (record { columns = (schema (Dec 2)).columns; time = None }) names elements (Time (pos 10))) → ⊥
no_time kept = kept.timed

-- two names of one text
one_text : IsCompiled (plan (schema (Dec 2)) (a ∷ a ∷ c ∷ []) elements (Events 10)) → ⊥
one_text kept = kept.names_apart 0 1 [] (lit< tt) (lit< tt) refl

-- one event or more as the last element
open_end : IsCompiled (plan (schema (Dec 2)) names (Set 0 2 ∷ Plus 2 ∷ []) (Events 10)) → ⊥
open_end kept = kept.last

-- a set of one name
set_of_one : IsCompiled (plan (schema (Dec 2)) names (Plus 0 ∷ Set 1 1 ∷ One 2 ∷ []) (Events 10)) → ⊥
set_of_one kept = let two : 2 ≤ 1 = kept.sets 1 (One 0) (lit< tt) in omega arith

-- a set of no name
set_of_none : IsCompiled (plan (schema (Dec 2)) names (Plus 0 ∷ Set 1 0 ∷ Set 1 2 ∷ []) (Events 10)) → ⊥
set_of_none kept = let two : 2 ≤ 0 = kept.sets 1 (One 0) (lit< tt) in omega arith

-- no name at all
no_name : IsCompiled (plan (schema (Dec 2)) [] [] (Events 10)) → ⊥
no_name kept = kept.last

-- nine decimals
nine_decimals : IsCompiled (plan (schema (Dec 9)) names elements (Events 10)) → ⊥
nine_decimals kept = let nine : 9 ≤ 6 = (kept.kinds 2 (record { name = []; kind = Int }) (lit< tt)).1 in omega arith

-- what the predicate of the first name keeps
first_reads : (pred : Pred) → IsCompiled (first_with pred) → IsComparable (record { columns = (schema (Dec 2)).columns; texts = 1; names = 0; binding = 0 ∷ 1 ∷ 2 ∷ [] }) pred
first_reads pred kept = kept.reads.0 0 (name [] Always) (lit< tt)

-- the first name reads the second
reads_later : IsCompiled (first_with (Test Equal (Column 2) (Earlier 1 2))) → ⊥
reads_later kept = elim (first_reads (Test Equal (Column 2) (Earlier 1 2)) kept) [ inl texts ↦ texts.left_is | inr numbers ↦ let late : 1 < 0 = numbers.right_is.0.0 in omega arith ]

-- a column that is not there
no_column : IsCompiled (first_with (Test Equal (Column 70) (Literal (pos 5)))) → ⊥
no_column kept = elim (first_reads (Test Equal (Column 70) (Literal (pos 5))) kept) [ inl texts ↦ texts.left_is | inr numbers ↦ numbers.left_is ]

-- a text compared with a number
text_with_number : IsCompiled (first_with (Test Equal (Column 1) (Literal (pos 5)))) → ⊥
text_with_number kept = elim (first_reads (Test Equal (Column 1) (Literal (pos 5))) kept) [ inl texts ↦ texts.right_is | inr numbers ↦ numbers.left_is ]

-- texts in an order
text_order : IsCompiled (first_with (Test Greater (Column 1) (Word 0))) → ⊥
text_order kept = elim (first_reads (Test Greater (Column 1) (Word 0)) kept) [ inl texts ↦ texts.equality | inr numbers ↦ numbers.left_is ]

-- numbers of two scales
two_scales : IsCompiled (first_with (Test Equal (Column 0) (Column 2))) → ⊥
two_scales kept =
    elim (first_reads (Test Equal (Column 0) (Column 2)) kept)
    [ inl texts ↦ texts.left_is | inr numbers ↦ let one : numbers.scale ≡ 0 = numbers.left_is in let other : numbers.scale ≡ 2 = numbers.right_is in omega arith ]

-- WHEN reads a name
when_reads : IsCompiled (record good { opening = When (Test Equal (Column 2) (Earlier 0 2)) }) → ⊥
when_reads kept = elim kept.opening_reads [ inl texts ↦ texts.left_is | inr numbers ↦ let early : 0 < 0 = numbers.right_is.0.0 in omega arith ]

-- ---- negated names

-- a and then b, with no c between
abbrev with_negated : List Element → Plan
with_negated elements_of = plan (schema (Dec 2)) (a ∷ c ∷ b ∷ []) elements_of (Events 10)

-- the predicate behind a negated name reads the name in front of it
behind_negated : IsComparable (readable (with_negated (One 0 ∷ Never 1 ∷ One 2 ∷ [])) 2) is_more
behind_negated = inr (record { scale = 2; within = lit≤ tt; left_is = refl; right_is = ((lit< tt, refl), refl) })

-- a negated name as the first element
negated_first : IsCompiled (with_negated (Never 0 ∷ One 1 ∷ One 2 ∷ [])) → ⊥
negated_first kept = kept.first

-- a negated name as the last element
negated_last : IsCompiled (with_negated (One 0 ∷ One 1 ∷ Never 2 ∷ [])) → ⊥
negated_last kept = kept.last

-- a predicate that reads a negated name
reads_negated : IsCompiled (plan (schema (Dec 2)) (a ∷ c ∷ name (codes "b") (Test Equal (Column 2) (Earlier 1 2)) ∷ []) (One 0 ∷ Never 1 ∷ One 2 ∷ []) (Events 10)) → ⊥
reads_negated kept =
    elim (kept.reads.1.1.0 0 (name [] Always) (lit< tt))
    [ inl texts ↦ texts.left_is | inr numbers ↦ let found : false ≡ true = numbers.right_is.0.1 in absurd cc ]
