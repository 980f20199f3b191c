-- What is known where a list of names has no fault.
use Rattle.std.proofs.Common.{◌≡◌, ℕ, zero, suc, ◌+◌, ◌<◌, ◌≤◌, Bool, true, false, ◌&&◌, List, [], ◌∷◌, ◌++◌, length, take, map, get_or, Some, None, refl, ap, sym, ◌∙◌, arith, append_assoc}
use Rattle.std.specs.Prelude.{Option, nat_le, not, if◌then◌else◌}
use Rattle.std.specs.List.{All, AllPairs}
use Rattle.std.specs.Str.{bytes_eq}
use Rattle.std.proofs.lemmas.Bool.Decides.{nat_tests}
use Rattle.std.proofs.lemmas.List.{append-nil, length-append, length-map, length-take-le, get_or-map, get_or-take}
use Rattle.std.proofs.lemmas.List.Folds.{list_any_at}
use Rattle.std.proofs.lemmas.Slice.Eq.{bytes_eq-Decides}
use Rattle.sp_lex.specs.declared.token.Word.{Word}
use Rattle.sp_lex.specs.declared.token.Word.TheVariants as w
use Rattle.sp_query.specs.declared.query.QueryColumn.{QueryColumn}
use Rattle.sp_compile.specs.declared.fault.CompileFault.{CompileFault}
use Rattle.sp_compile.specs.declared.fault.CompileFault.TheVariants as f
use Rattle.sp_query.specs.declared.query.Query.{Query}
use Rattle.sp_compile.specs.Scopes.{pattern_names, PatternName}
use Rattle.sp_compile.specs.Answers.{IsNamed}
use Rattle.sp_compile.proofs.EarlierNames.{placed_ordered}
use Rattle.sp_compile.specs.Sorts.{first}
use Rattle.sp_compile.specs.Checks.{is_among, is_decimal, column_fault, columns_fault, name_fault, names_fault}

-- where neither of two has a fault
pub neither : (one other : Option CompileFault) → first one other ≡ None → (one ≡ None) × (other ≡ None)
neither None other none = (refl, none)
neither (Some fault) other none = absurd (cc none)

-- a check that finds nothing is not true
pub untrue : (b : Bool) (fault : CompileFault) (others : Option CompileFault) → (if b then Some fault else others) ≡ None → (b ≡ false) × (others ≡ None)
untrue true fault others none = absurd (cc none)
untrue false fault others none = (refl, none)

-- what doesn't reach a limit
below : (n most : ℕ) → nat_le most n ≡ false → n < most
below n most fails = grind (arith, nat_tests)

-- items that are checked from the left, each behind the names before it
pub record FromLeft {X : Type 0} (name : X → List ℕ) (of_item : List (List ℕ) → X → Option CompileFault) (of_list : List (List ℕ) → List X → Option CompileFault) : Type 0 where
  pub some : (before : List (List ℕ)) (x : X) (xs : List X) → of_list before (x ∷ xs) ≡ first (of_item before x) (of_list (before ++ name x ∷ []) xs)

module _ {X : Type 0} (name : X → List ℕ) (of_item : List (List ℕ) → X → Option CompileFault) (of_list : List (List ℕ) → List X → Option CompileFault) (by : FromLeft name of_item of_list) where
  -- neither the first item has a fault nor the others
  both_fine : (before : List (List ℕ)) (x : X) (xs : List X) → of_list before (x ∷ xs) ≡ None → (of_item before x ≡ None) × (of_list (before ++ name x ∷ []) xs ≡ None)
  both_fine before x xs none = neither (of_item before x) (of_list (before ++ name x ∷ []) xs) (sym (by.some before x xs) ∙ none)

  -- what an item without a fault is, each is
  each_fine : (P : X → Type 0) → ((before : List (List ℕ)) (x : X) → of_item before x ≡ None → P x) → (xs : List X) (before : List (List ℕ)) → of_list before xs ≡ None → All P xs
  each_fine P is [] before none i d inside = absurd (omega arith)
  each_fine P is (x ∷ xs) before none zero d inside = is before x (both_fine before x xs none).0
  each_fine P is (x ∷ xs) before none (suc i) d inside = each_fine P is xs (before ++ name x ∷ []) (both_fine before x xs none).1 i d (omega arith)

  -- where an item has a fault behind so many names, there are no more items
  few_items : (most : ℕ) → ((before : List (List ℕ)) (x : X) → of_item before x ≡ None → length before < most) → (xs : List X) (before : List (List ℕ)) → of_list before xs ≡ None → length before ≤ most → length before + length xs ≤ most
  few_items most few [] before none so_far = omega arith
  few_items most few (x ∷ xs) before none so_far =
      let parts = both_fine before x xs none in
      let one_more : length (before ++ name x ∷ []) ≡ length before + 1 = length-append before (name x ∷ []) in
      let here : length before < most = few before x parts.0 in
      let behind : length (before ++ name x ∷ []) + length xs ≤ most = few_items most few xs (before ++ name x ∷ []) parts.1 (omega arith) in
      omega arith

  -- where an item has a fault whose name is among those before, each name is a new one
  each_new : ((before : List (List ℕ)) (x : X) → of_item before x ≡ None → is_among before (name x) ≡ false) → (xs : List X) (before : List (List ℕ)) → of_list before xs ≡ None → (i : ℕ) (d : X) → i < length xs
      → is_among (before ++ map name (take i xs)) (name (get_or xs i d)) ≡ false
  each_new new [] before none i d inside = absurd (omega arith)
  each_new new (x ∷ xs) before none zero d inside = ap (λ (l : List (List ℕ)). is_among l (name x)) (append-nil before) ∙ new before x (both_fine before x xs none).0
  each_new new (x ∷ xs) before none (suc i) d inside =
      ap (λ (l : List (List ℕ)). is_among l (name (get_or xs i d))) (sym (append_assoc before (name x ∷ []) (map name (take i xs))))
      ∙ each_new new xs (before ++ name x ∷ []) (both_fine before x xs none).1 i d (omega arith)

  -- so no two names are alike
  all_unlike : ((before : List (List ℕ)) (x : X) → of_item before x ≡ None → is_among before (name x) ≡ false) → (xs : List X) → of_list [] xs ≡ None → AllPairs (λ x y. name x ≡ name y → ⊥) xs
  all_unlike new xs none i j d before inside same =
      let text = name (get_or xs j d) in
      let names = map name (take j xs) in
      let taken : length (take j xs) ≡ j = length-take-le j xs (omega arith) in
      let many : length names ≡ j = length-map (take j xs) name ∙ taken in
      let there : get_or names i [] ≡ text = get_or-map name (take j xs) i d [] (omega arith) ∙ ap name (get_or-take j xs i d before) ∙ same in
      let alike : bytes_eq text (get_or names i []) ≡ true = (bytes_eq-Decides text (get_or names i [])).1 (sym there) in
      let found : is_among names text ≡ true = list_any_at (bytes_eq text) names i [] (omega arith) alike in
      let not_found : is_among names text ≡ false = each_new new xs [] none j d inside in
      absurd (cc (found, not_found))

-- ---- columns

-- a column's name
abbrev pub name_of : QueryColumn → List ℕ
name_of column = column.name.text

-- columns are checked so
by_columns : FromLeft name_of column_fault columns_fault
by_columns = record { some = λ before x xs. refl }

-- the digits behind DEC
abbrev pub HasDigits : QueryColumn → Type 0
HasDigits column = column.kind ≡ w.Dec → (1 ≤ column.digits) × (column.digits ≤ 6)

-- whether the digits are within their limits
abbrev sound_digits : ℕ → Bool
sound_digits digits = nat_le 1 digits && nat_le digits 6

-- the digits behind DEC, where they are sound
digits_within : (kind : Word) (digits : ℕ) → (is_decimal kind && not (sound_digits digits)) ≡ false → kind ≡ w.Dec → (1 ≤ digits) × (digits ≤ 6)
digits_within kind digits fine is =
    let sound : not (sound_digits digits) ≡ false = ap (λ (k : Word). is_decimal k && not (sound_digits digits)) (sym is) ∙ fine in
    (grind (arith, nat_tests), grind (arith, nat_tests))

-- what a column without a fault is
fine_column : (before : List (List ℕ)) (column : QueryColumn) → column_fault before column ≡ None → (length before < 64) × (is_among before column.name.text ≡ false) × HasDigits column
fine_column before column none =
    let wrong = is_decimal column.kind && not (sound_digits column.digits) in
    let behind : Option CompileFault = if wrong then Some (f.WrongKind column.span) else None in
    let unlike : Option CompileFault = if is_among before column.name.text then Some (f.Twice column.name.span) else behind in
    let many = untrue (nat_le 64 (length before)) (f.TooMany column.name.span) unlike none in
    let taken = untrue (is_among before column.name.text) (f.Twice column.name.span) behind many.1 in
    let sound = untrue wrong (f.WrongKind column.span) None taken.1 in
    (below (length before) 64 many.0, taken.0, digits_within column.kind column.digits sound.0)

-- columns without a fault are at most 64
pub at_most_64_columns : (columns : List QueryColumn) → columns_fault [] columns ≡ None → length columns ≤ 64
at_most_64_columns columns none =
    let few : 0 + length columns ≤ 64 = few_items name_of column_fault columns_fault by_columns 64 (λ before x fine. (fine_column before x fine).0) columns [] none (omega arith) in
    omega arith

-- and each has 1 to 6 digits behind DEC
pub columns_have_digits : (columns : List QueryColumn) → columns_fault [] columns ≡ None → All HasDigits columns
columns_have_digits columns none = each_fine name_of column_fault columns_fault by_columns HasDigits (λ before x fine. (fine_column before x fine).2) columns [] none

-- and no two of them have one name
pub columns_unlike : (columns : List QueryColumn) → columns_fault [] columns ≡ None → AllPairs (λ one other. name_of one ≡ name_of other → ⊥) columns
columns_unlike columns none = all_unlike name_of column_fault columns_fault by_columns (λ before x fine. (fine_column before x fine).1) columns none

-- ---- names of the pattern

-- the text of a name of the pattern
abbrev pub text_of : PatternName → List ℕ
text_of name = name.name.text

-- the fault of a name of the pattern, behind these
abbrev name_fault_of : List (List ℕ) → PatternName → Option CompileFault
name_fault_of before name = name_fault before name.name

-- names of the pattern are checked so
by_names : FromLeft text_of name_fault_of names_fault
by_names = record { some = λ before x xs. refl }

-- what a name without a fault is
fine_name : (before : List (List ℕ)) (name : PatternName) → name_fault_of before name ≡ None → (length before < 32) × (is_among before name.name.text ≡ false)
fine_name before name none =
    let unlike : Option CompileFault = if is_among before name.name.text then Some (f.Twice name.name.span) else None in
    let many = untrue (nat_le 32 (length before)) (f.TooMany name.name.span) unlike none in
    let taken = untrue (is_among before name.name.text) (f.Twice name.name.span) None many.1 in
    (below (length before) 32 many.0, taken.0)

-- names without a fault are at most 32
pub at_most_32_names : (names : List PatternName) → names_fault [] names ≡ None → length names ≤ 32
at_most_32_names names none =
    let few : 0 + length names ≤ 32 = few_items text_of name_fault_of names_fault by_names 32 (λ before x fine. (fine_name before x fine).0) names [] none (omega arith) in
    omega arith

-- and no two of them have one text
pub names_unlike : (names : List PatternName) → names_fault [] names ≡ None → AllPairs (λ one other. one.name.text ≡ other.name.text → ⊥) names
names_unlike names none = all_unlike text_of name_fault_of names_fault by_names (λ before x fine. (fine_name before x fine).1) names none

-- what is known of a query whose columns and names have no fault
pub is_named : (query : Query) → columns_fault [] query.columns ≡ None → names_fault [] (pattern_names query) ≡ None → IsNamed query
is_named query columns names = record {
  columns = at_most_64_columns query.columns columns;
  digits = λ i d inside is. (columns_have_digits query.columns columns i d inside is).1;
  names = at_most_32_names (pattern_names query) names;
  ordered = (placed_ordered query.elements 0).0;
}
