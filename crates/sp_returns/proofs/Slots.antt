-- Items are gone through from the left, and each fills the slot of its column.
use Rattle.std.proofs.Common.{◌≡◌, ◌≢◌, ℕ, zero, suc, ◌+◌, ◌<◌, ◌≤◌, Bool, true, false, ◌||◌, cond, List, [], ◌∷◌, ◌++◌, length, map, take, drop, get_or, Option, Some, None, Ok, refl, sym, ◌∙◌, ap, subst, arith, append_assoc, append-nil}
use Rattle.std.specs.Prelude.{slice_get, slice_set, if◌then◌else◌}
use Rattle.std.specs.List.{All, AllPairs, AllZip}
use Rattle.std.specs.Option.{option_or}
use Rattle.std.specs.Str.{bytes_eq}
use Rattle.std.proofs.lemmas.Bool.{false_from_ne_true}
use Rattle.std.proofs.lemmas.List.{take_more, take_all, drop_more, drop_all, length-map, get_or-map, map-append}
use Rattle.std.proofs.lemmas.List.Folds.{find-append, list_any-append}
use Rattle.std.proofs.lemmas.List.Quantifiers.{position-Some}
use Rattle.std.proofs.lemmas.Option.{slice_get-get_or}
use Rattle.std.proofs.lemmas.Slice.Eq.{bytes_eq-Decides}
use Rattle.sp_plan.specs.declared.plan.Column.{Column}
use Rattle.sp_plan.specs.declared.plan.Expr.{Expr}
use Rattle.sp_plan.specs.declared.plan.Plan.{Plan}
use Rattle.sp_plan.specs.Compiled.{AreApart}
use Rattle.sp_compile.specs.declared.fault.CompileFault.{CompileFault}
use Rattle.sp_compile.specs.declared.fault.CompileFault.TheVariants as f
use Rattle.sp_compile.specs.Checks.{Then, stops, goes}
use Rattle.sp_compile.specs.Scopes.{Scope}
use Rattle.sp_compile.specs.Sorts.{first}
use Rattle.sp_returns.specs.declared.item.Return.{Return}
use Rattle.sp_returns.specs.Answers.{AreSlots, FilledBy, Fitted, Gone, Misfits, Misreturns, SlotFor, TargetAnswer}
use Rattle.sp_returns.specs.Checks.{ItemFault, ItemsFault, SumFault, behind, column_called, column_place, column_there, is_returned, missing_fault}
use Rattle.sp_returns.specs.Scopes.{item_scope}
use Rattle.sp_returns.specs.Stands.{item_for}

-- ---- texts

same_text : (one other : List ℕ) → bytes_eq one other ≡ true → one ≡ other
same_text one other is = (bytes_eq-Decides one other).0 is

text_itself : (one other : List ℕ) → one ≡ other → bytes_eq one other ≡ true
text_itself one other is = (bytes_eq-Decides one other).1 is

-- ---- one item more

or_none : {X : Type 0} (o : Option X) → option_or o None ≡ o
or_none None = refl
or_none (Some x) = refl

or_false : (a : Bool) → (a || (false || false)) ≡ a
or_false true = refl
or_false false = refl

one_none : {X : Type 0} (b rest : Bool) (x : X) (o : Option X) → (rest ≡ false → o ≡ None) → (b || rest) ≡ false → cond b (Some x) o ≡ None
one_none true rest x o of h = absurd (cc h)
one_none false rest x o of h = of h

one_some : {X : Type 0} (b rest : Bool) (x y : X) (o : Option X) → (o ≡ Some y → rest ≡ true) → cond b (Some x) o ≡ Some y → (b || rest) ≡ true
one_some true rest x y o of h = refl
one_some false rest x y o of h = of h

-- no item is for a name that none of them returns
none_for : (returns : List Return) (text : List ℕ) → is_returned returns text ≡ false → item_for returns text ≡ None
none_for [] text e = refl
none_for (item ∷ returns) text e = one_none (bytes_eq item.name.text text) (is_returned returns text) item (item_for returns text) (none_for returns text) e

-- and where one is, it returns it
pub some_for : (returns : List Return) (text : List ℕ) (item : Return) → item_for returns text ≡ Some item → is_returned returns text ≡ true
some_for [] text item e = absurd (cc e)
some_for (other ∷ returns) text item e = one_some (bytes_eq other.name.text text) (is_returned returns text) other item (item_for returns text) (some_for returns text item) e

module _ (from : Plan) (before : List Return) (item : Return) where
  more_items : (text : List ℕ) → item_for (before ++ item ∷ []) text ≡ option_or (item_for before text) (cond (bytes_eq item.name.text text) (Some item) None)
  more_items text = find-append (λ (other : Return). bytes_eq other.name.text text) before (item ∷ [])

  -- an item for another column changes nothing
  kept : (column : Column) (slot : Option Expr) → bytes_eq item.name.text column.name ≡ false → SlotFor from before column slot → SlotFor from (before ++ item ∷ []) column slot
  kept column None other h =
      list_any-append (λ (one : Return). bytes_eq one.name.text column.name) before (item ∷ [])
      ∙ ap (λ (b : Bool). is_returned before column.name || (b || false)) other ∙ or_false (is_returned before column.name) ∙ h
  kept column (Some expr) other h =
      let same : item_for (before ++ item ∷ []) column.name ≡ item_for before column.name =
      more_items column.name ∙ ap (λ (b : Bool). option_or (item_for before column.name) (cond b (Some item) None)) other ∙ or_none (item_for before column.name) in
      record { item = h.item; is_for = same ∙ h.is_for; fitted = h.fitted }

  -- the first item for a column fills its slot
  given : (column : Column) (expr : Expr) → bytes_eq item.name.text column.name ≡ true → is_returned before column.name ≡ false → Fitted (item_scope from) from.texts column.kind item.tree expr
      → FilledBy from (before ++ item ∷ []) column expr
  given column expr own new fit = record {
    item = item;
    is_for = more_items column.name
        ∙ ap (λ (o : Option Return). option_or o (cond (bytes_eq item.name.text column.name) (Some item) None)) (none_for before column.name new)
        ∙ ap (λ (b : Bool). cond b (Some item) None) own;
    fitted = fit;
  }

  all_kept : (columns : List Column) (slots : List (Option Expr)) → All (λ column. bytes_eq item.name.text column.name ≡ false) columns → AreSlots from before columns slots → AreSlots from (before ++ item ∷ []) columns slots
  all_kept [] [] others s = s
  all_kept [] (slot ∷ slots) others s = s
  all_kept (column ∷ columns) [] others s = s
  all_kept (column ∷ columns) (slot ∷ slots) others s = (kept column slot (others 0 column (omega arith)) s.0, all_kept columns slots (λ i d inside. others (suc i) d (omega arith)) s.1)

  -- where no two columns are of one name, the slot of one is filled and the others stay
  give : (columns : List Column) (slots : List (Option Expr)) (at : ℕ) (d : Column) (expr : Expr) → AllPairs (λ one other. one.name ≢ other.name) columns → at < length columns
      → item.name.text ≡ (get_or columns at d).name → is_returned before (get_or columns at d).name ≡ false → Fitted (item_scope from) from.texts (get_or columns at d).kind item.tree expr
      → AreSlots from before columns slots → AreSlots from (before ++ item ∷ []) columns (slice_set slots at (Some expr))
  give [] slots at d expr single inside same new fit s = absurd (omega arith)
  give (column ∷ columns) [] at d expr single inside same new fit s = absurd s
  give (column ∷ columns) (slot ∷ slots) zero d expr single inside same new fit s = (
    given column expr (text_itself item.name.text column.name same) new fit,
    all_kept columns slots (λ i x within. false_from_ne_true _ (λ is. single 0 (suc i) x (omega arith) (omega arith) (sym same ∙ same_text _ _ is))) s.1,
  )
  give (column ∷ columns) (slot ∷ slots) (suc at) d expr single inside same new fit s = (
    kept column slot (false_from_ne_true _ (λ is. single 0 (suc at) d (omega arith) (omega arith) (sym (same_text _ _ is) ∙ same))) s.0,
    give columns slots at d expr (λ i j x before within. single (suc i) (suc j) x (omega arith) (omega arith)) (omega arith) same new fit s.1,
  )

-- columns of which no two are of one name
pub single_columns : (columns : List Column) → AreApart (map (λ column. column.name) columns) → AllPairs (λ one other. one.name ≢ other.name) columns
single_columns columns apart i j d before inside same =
    let name = λ (column : Column). column.name in
    let wide : length (map name columns) ≡ length columns = length-map columns name in
    apart i j d.name before (omega arith) (get_or-map name columns i d d.name (omega arith) ∙ same ∙ sym (get_or-map name columns j d d.name inside))

-- ---- the column of an item

-- a column at the place of its name
called : (columns : List Column) (text : List ℕ) (place : ℕ) → column_place columns text ≡ Some place → (column : Column) × (column_called columns text ≡ Some column)
called [] text place is = absurd (cc is)
called (column ∷ columns) text place is =
    let inside = (position-Some (λ (one : Column). bytes_eq one.name text) (column ∷ columns) place column is).0 in
    (get_or (column ∷ columns) place column, ap (column_there (column ∷ columns)) is ∙ slice_get-get_or (column ∷ columns) place column inside)

-- an item whose column has one before it
pub twice_is : (scope : Scope) (columns : List Column) (before : List Return) (item : Return) (place : ℕ) → column_place columns item.name.text ≡ Some place → is_returned before item.name.text ≡ true
    → ItemFault scope before item (column_called columns item.name.text) (Some (f.Twice item.name.span))
twice_is scope columns before item place is twice =
    let column = called columns item.name.text place is in
    subst (λ (o : Option Column). ItemFault scope before item o (Some (f.Twice item.name.span))) (sym column.1)
    (stops (f.Twice item.name.span) (sym (ap (λ (b : Bool). if b then Some (f.Twice item.name.span) else None) twice)))

-- ---- going through items

-- The first so many items have no fault, and filled their slots.
pub record Through (from : Plan) (returns : List Return) (columns : List Column) (at : ℕ) (slots : List (Option Expr)) : Type 0 where
  pub go : (fault : Option CompileFault) → ItemsFault (item_scope from) columns (take at returns) (drop at returns) fault → ItemsFault (item_scope from) columns [] returns fault
  pub slots_are : AreSlots from (take at returns) columns slots

module _ (from : Plan) (returns : List Return) (columns : List Column) (at : ℕ) (slots : List (Option Expr)) (item : Return)
    (inside : at < length returns) (is : item ≡ get_or returns at item) (through : Through from returns columns at slots) where
  go_on : (fault : Option CompileFault) → Then (ItemFault (item_scope from) (take at returns) item (column_called columns item.name.text)) (ItemsFault (item_scope from) columns (take at returns ++ item ∷ []) (drop (at + 1) returns)) fault
      → ItemsFault (item_scope from) columns [] returns fault
  go_on fault d =
      let rest : drop at returns ≡ item ∷ drop (at + 1) returns = drop_more returns at item inside ∙ ap (λ l. l ∷ drop (at + 1) returns) (sym is) in
      through.go fault (subst (λ l. ItemsFault (item_scope from) columns (take at returns) l fault) (sym rest) d)

  -- an item whose name has a fault
  pub misnamed_here : (fault : CompileFault) → ItemFault (item_scope from) (take at returns) item (column_called columns item.name.text) (Some fault) → Misreturns from returns columns fault
  misnamed_here f.Memory wrong = tt
  misnamed_here fault wrong = go_on (Some fault) (stops fault wrong)

  module _ (place : ℕ) (column : Column) (here : column ≡ get_or columns place column) (answer : TargetAnswer columns (take at returns) item (Ok place)) where
    there : column_called columns item.name.text ≡ Some column
    there = ap (column_there columns) answer.1 ∙ slice_get-get_or columns place column answer.0 ∙ ap (λ (l : Column). Some l) (sym here)

    summed : (found : Option CompileFault) → SumFault (item_scope from) item column found → ItemFault (item_scope from) (take at returns) item (column_called columns item.name.text) found
    summed found sum = subst (λ (o : Option Column). ItemFault (item_scope from) (take at returns) item o found) (sym there)
        (goes found (sym (ap (λ (b : Bool). if b then Some (f.Twice item.name.span) else None) answer.2)) sum)

    -- an item whose sum has one
    pub unfit_here : (fault : CompileFault) → Misfits (item_scope from) column.kind item.tree fault → Misreturns from returns columns fault
    unfit_here f.Memory wrong = tt
    unfit_here fault wrong = go_on (Some fault) (stops fault (summed (Some fault) wrong))

    -- an item without one
    pub fitted_here : (expr : Expr) → AreApart (map (λ column. column.name) columns) → Fitted (item_scope from) from.texts column.kind item.tree expr → Through from returns columns (at + 1) (slice_set slots place (Some expr))
    fitted_here expr apart fit =
        let more : take (at + 1) returns ≡ take at returns ++ item ∷ [] = take_more returns at item inside ∙ ap (λ l. take at returns ++ l ∷ []) (sym is) in
        let named : item.name.text ≡ (get_or columns place column).name =
        sym (same_text (get_or columns place column).name item.name.text (position-Some (λ (one : Column). bytes_eq one.name item.name.text) columns place column answer.1).1) in
        record {
          go = λ fault i. go_on fault (goes fault (summed None (Ok fit.sort, fit.types, sym fit.fits)) (subst (λ l. ItemsFault (item_scope from) columns l (drop (at + 1) returns) fault) more i));
          slots_are = subst (λ l. AreSlots from l columns (slice_set slots place (Some expr))) (sym more)
              (give from (take at returns) item columns slots place column expr (single_columns columns apart) answer.0 named (ap (is_returned (take at returns)) (sym named) ∙ answer.2)
              (subst (λ (c : Column). Fitted (item_scope from) from.texts c.kind item.tree expr) here fit) through.slots_are);
        }

-- no item was gone through
pub none_through : (from : Plan) (returns : List Return) (columns : List Column) (slots : List (Option Expr)) → AreSlots from [] columns slots → Through from returns columns 0 slots
none_through from returns columns slots s = record { go = λ fault i. i; slots_are = s }

-- all were
pub all_through : (from : Plan) (returns : List Return) (columns : List Column) (at : ℕ) (slots : List (Option Expr)) → Through from returns columns at slots → length returns ≤ at → Gone from returns columns slots
all_through from returns columns at slots through end = record {
  checks = through.go None (subst (λ l. ItemsFault (item_scope from) columns (take at returns) l None) (sym (drop_all at returns end)) refl);
  slots_are = subst (λ l. AreSlots from l columns slots) (take_all at returns end) through.slots_are;
}

-- ---- slots of columns of which none was gone through

pub push_empty : (from : Plan) (columns : List Column) (slots : List (Option Expr)) (column : Column) → AreSlots from [] columns slots → AreSlots from [] (columns ++ column ∷ []) (slots ++ None ∷ [])
push_empty from [] [] column s = (refl, tt)
push_empty from [] (slot ∷ slots) column s = absurd s
push_empty from (one ∷ columns) [] column s = absurd s
push_empty from (one ∷ columns) (slot ∷ slots) column s = (s.0, push_empty from columns slots column s.1)

more_empty : (columns : List Column) (i : ℕ) (slots : List (Option Expr)) (d : Column) → i < length columns → ((from : Plan) → AreSlots from [] (take i columns) slots) → (from : Plan) → AreSlots from [] (take (i + 1) columns) (slots ++ None ∷ [])
more_empty columns i slots d inside s from = subst (λ l. AreSlots from [] l (slots ++ None ∷ [])) (sym (take_more columns i d inside)) (push_empty from (take i columns) slots (get_or columns i d) (s from))

pub empty_more : (columns : List Column) (i : ℕ) (slots : List (Option Expr)) → i < length columns → ((from : Plan) → AreSlots from [] (take i columns) slots) → (from : Plan) → AreSlots from [] (take (i + 1) columns) (slots ++ None ∷ [])
empty_more [] i slots inside s = absurd (omega arith)
empty_more (column ∷ columns) i slots inside s = more_empty (column ∷ columns) i slots column inside s

pub empty_all : (columns : List Column) (i : ℕ) (slots : List (Option Expr)) → length columns ≤ i → ((from : Plan) → AreSlots from [] (take i columns) slots) → (from : Plan) → AreSlots from [] columns slots
empty_all columns i slots end s from = subst (λ l. AreSlots from [] l slots) (take_all i columns end) (s from)

-- ---- slots are emptied from the left

pub fill_more : (exprs : List Expr) (expr : Expr) (slot : Option Expr) (rest all : List (Option Expr)) → slot ≡ Some expr → map (λ expr. Some expr) exprs ++ slot ∷ rest ≡ all → map (λ expr. Some expr) (exprs ++ expr ∷ []) ++ rest ≡ all
fill_more exprs expr slot rest all is whole =
    let some = λ (one : Expr). Some one in
    ap (λ l. l ++ rest) (map-append some exprs (expr ∷ [])) ∙ append_assoc (map some exprs) (Some expr ∷ []) rest ∙ ap (λ (s : Option Expr). map some exprs ++ s ∷ rest) (sym is) ∙ whole

pub slot_here : (xs : List (Option Expr)) (slot : Option Expr) (rest : List (Option Expr)) → slice_get (xs ++ slot ∷ rest) (length xs) ≡ Some slot
slot_here [] slot rest = refl
slot_here (x ∷ xs) slot rest = slot_here xs slot rest

pub empty_here : (exprs : List Expr) (slot : Option Expr) (rest all : List (Option Expr)) → slot ≡ None → map (λ expr. Some expr) exprs ++ slot ∷ rest ≡ all → slice_get all (length (map (λ (expr : Expr). Some expr) exprs)) ≡ Some None
empty_here exprs slot rest all is whole =
    let some = λ (one : Expr). Some one in
    ap (λ l. slice_get l (length (map some exprs))) (sym whole) ∙ slot_here (map some exprs) slot rest ∙ ap (λ (s : Option Expr). Some s) is

pub filled_whole : (exprs : List Expr) (rest all : List (Option Expr)) → rest ≡ [] → map (λ expr. Some expr) exprs ++ rest ≡ all → all ≡ map (λ expr. Some expr) exprs
filled_whole exprs rest all end whole =
    let some = λ (one : Expr). Some one in
    sym whole ∙ ap (λ l. map some exprs ++ l) end ∙ append-nil (map some exprs)

-- ---- all slots are filled, or one is empty

pub all_filled : (from : Plan) (returns : List Return) (columns : List Column) (exprs : List Expr) → AreSlots from returns columns (map (λ expr. Some expr) exprs) → AllZip (FilledBy from returns) columns exprs
all_filled from returns [] [] s = tt
all_filled from returns [] (expr ∷ exprs) s = absurd s
all_filled from returns (column ∷ columns) [] s = absurd s
all_filled from returns (column ∷ columns) (expr ∷ exprs) s = (s.0, all_filled from returns columns exprs s.1)

-- a column that has an item, and one that has none
with_item : (b : Bool) (fault : CompileFault) (rest : Option CompileFault) → b ≡ true → first (if b then None else Some fault) rest ≡ rest
with_item true fault rest e = refl
with_item false fault rest e = absurd (cc e)

without_item : (b : Bool) (fault : CompileFault) (rest : Option CompileFault) → b ≡ false → first (if b then None else Some fault) rest ≡ Some fault
without_item true fault rest e = absurd (cc e)
without_item false fault rest e = refl

either_way : (b : Bool) (fault : CompileFault) (rest : Option CompileFault) → rest ≡ Some fault → first (if b then None else Some fault) rest ≡ Some fault
either_way true fault rest e = e
either_way false fault rest e = refl

pub none_missing : (from : Plan) (returns : List Return) (columns : List Column) (exprs : List Expr) → AllZip (FilledBy from returns) columns exprs → missing_fault returns columns ≡ None
none_missing from returns [] exprs s = refl
none_missing from returns (column ∷ columns) [] s = absurd s
none_missing from returns (column ∷ columns) (expr ∷ exprs) s =
    with_item (is_returned returns column.name) (f.Unknown (behind returns)) (missing_fault returns columns) (some_for returns column.name s.0.item s.0.is_for) ∙ none_missing from returns columns exprs s.1

pub one_missing : (from : Plan) (returns : List Return) (columns : List Column) (slots : List (Option Expr)) (at : ℕ) → AreSlots from returns columns slots → slice_get slots at ≡ Some None → missing_fault returns columns ≡ Some (f.Unknown (behind returns))
one_missing from returns [] [] at s e = absurd (cc e)
one_missing from returns [] (slot ∷ slots) at s e = absurd s
one_missing from returns (column ∷ columns) [] at s e = absurd s
one_missing from returns (column ∷ columns) (None ∷ slots) zero s e = without_item (is_returned returns column.name) (f.Unknown (behind returns)) (missing_fault returns columns) s.0
one_missing from returns (column ∷ columns) (Some expr ∷ slots) zero s e = absurd (cc e)
one_missing from returns (column ∷ columns) (slot ∷ slots) (suc at) s e =
    either_way (is_returned returns column.name) (f.Unknown (behind returns)) (missing_fault returns columns) (one_missing from returns columns slots at s.1 e)
