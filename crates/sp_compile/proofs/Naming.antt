-- Names of the plan get the predicates of their definitions.
use Rattle.std.proofs.Common.{◌≡◌, ℕ, zero, suc, ◌+◌, ◌<◌, ◌≤◌, Bool, true, false, cond, List, [], ◌∷◌, ◌++◌, length, map, take, drop, get_or, Option, Some, None, Result, Ok, Err, refl, sym, ◌∙◌, ap, subst, arith}
use Rattle.std.specs.Prelude.{slice_set}
use Rattle.std.specs.List.{All, AllPairs, AllZip}
use Rattle.std.specs.Option.{option_or}
use Rattle.std.specs.Result.{result_err}
use Rattle.std.proofs.lemmas.Bool.{false_from_ne_true, or_parts}
use Rattle.std.specs.Str.{bytes_eq}
use Rattle.std.proofs.lemmas.List.{take_more, map_more, take_all, drop_more, drop_all}
use Rattle.std.proofs.lemmas.List.Elements.{All-set}
use Rattle.std.proofs.lemmas.List.Folds.{find-append}
use Rattle.std.proofs.lemmas.List.Quantifiers.{position-Some}
use Rattle.std.proofs.lemmas.Option.{slice_get-get_or}
use Rattle.std.proofs.lemmas.Slice.Eq.{bytes_eq-Decides}
use Rattle.sp_plan.specs.declared.plan.Name.{Name}
use Rattle.sp_plan.specs.declared.plan.Pred.{Pred, Always}
use Rattle.sp_plan.specs.Bounds.{PredWithin}
use Rattle.sp_plan.specs.Comparable.{IsComparable}
use Rattle.sp_query.specs.declared.tree.Tree.{Tree}
use Rattle.sp_query.specs.declared.query.Ident.{Ident}
use Rattle.sp_query.specs.declared.query.Query.{Query}
use Rattle.sp_compile.specs.declared.fault.CompileFault.{CompileFault}
use Rattle.sp_compile.specs.declared.fault.CompileFault.TheVariants as f
use Rattle.sp_compile.specs.Answers.{CompiledPred, Faulty, scope_in, readable_in}
use Rattle.sp_compile.specs.Checks.{is_among, name_fault, names_fault, defined, defined_fault, scope_of, Tests, Defines}
use Rattle.sp_compile.specs.Checks as checks
use Rattle.sp_compile.specs.Naming.{defined_in, ReadsBefore, StandsSoFar, StandSoFar, PlaceAnswer, AreNames, Misdefines}
use Rattle.sp_compile.specs.Scopes.{pattern_names, name_place, PatternName}
use Rattle.sp_compile.specs.Sorts.{name_there}
use Rattle.sp_compile.specs.Stands.{HoldsAs, StandsForDefinition, StandForNames, is_consumed}
use Rattle.sp_compile.proofs.Limits.{untrue, names_unlike}
use Rattle.sp_compile.proofs.Taken.{bytes_eq_turned}

-- The first so many definitions have no fault, and were given to their names.
pub record GoneThrough (query : Query) (texts : List (List ℕ)) (names : List PatternName) (at : ℕ) (planned : List Name) : Type 0 where
  pub goes : (fault : Option CompileFault) → Defines query (map (λ define. define.0.text) (take at query.defines)) (drop at query.defines) fault → Defines query [] query.defines fault
  pub stand : StandSoFar query texts (take at query.defines) names planned
  pub within : All (λ name. PredWithin name.pred) planned

-- ---- texts

-- texts that the test finds equal are so
same_text : (one other : List ℕ) → bytes_eq one other ≡ true → one ≡ other
same_text one other is = (bytes_eq-Decides one other).0 is

-- and the test finds equal texts equal
text_itself : (one other : List ℕ) → one ≡ other → bytes_eq one other ≡ true
text_itself one other is = (bytes_eq-Decides one other).1 is

-- ---- one definition more

-- one of two, of which the other is none
or_none : {X : Type 0} (o : Option X) → option_or o None ≡ o
or_none None = refl
or_none (Some x) = refl

module _ (query : Query) (texts : List (List ℕ)) (defines : List (Ident × Tree)) (define : Ident × Tree) (pred : Pred) where
  -- a name with this predicate
  abbrev pub with_pred : Name → Name
  with_pred planned = record { text = planned.text; pred = pred; consumed = planned.consumed }

  -- the definition of a name, with one more behind the others
  more_defines : (text : List ℕ) → defined_in (defines ++ define ∷ []) text ≡ option_or (defined_in defines text) (cond (bytes_eq define.0.text text) (Some define) None)
  more_defines text = find-append (λ (other : Ident × Tree). bytes_eq other.0.text text) defines (define ∷ [])

  -- a definition of another name changes nothing
  kept : (name : PatternName) (planned : Name) → bytes_eq define.0.text name.name.text ≡ false → StandsSoFar query texts defines name planned → StandsSoFar query texts (defines ++ define ∷ []) name planned
  kept name planned other s =
      let same : defined_in (defines ++ define ∷ []) name.name.text ≡ defined_in defines name.name.text =
      more_defines name.name.text ∙ ap (λ (b : Bool). option_or (defined_in defines name.name.text) (cond b (Some define) None)) other ∙ or_none (defined_in defines name.name.text) in
      record { text = s.text; pred = subst (λ o. StandsForDefinition query texts name o planned.pred) (sym same) s.pred; consumed = s.consumed; reads = s.reads }

  -- the first definition of a name gives it its predicate
  given : (name : PatternName) (planned : Name) → name.name.text ≡ define.0.text → defined_in defines define.0.text ≡ None → HoldsAs (scope_of query (Some name)) texts define.1 pred
      → IsComparable (readable_in (scope_in query (Some name.element)) texts) pred → StandsSoFar query texts defines name planned → StandsSoFar query texts (defines ++ define ∷ []) name (with_pred planned)
  given name planned same before holds reads s =
      let now : defined_in (defines ++ define ∷ []) name.name.text ≡ Some define =
      more_defines name.name.text ∙ ap (λ (o : Option (Ident × Tree)). option_or o (cond (bytes_eq define.0.text name.name.text) (Some define) None)) (ap (defined_in defines) same ∙ before)
      ∙ ap (λ (b : Bool). cond b (Some define) None) (text_itself define.0.text name.name.text (sym same)) in
      record { text = s.text; pred = subst (λ o. StandsForDefinition query texts name o pred) (sym now) holds; consumed = s.consumed; reads = reads }

  -- nor does it for names that are all others
  all_kept : (names : List PatternName) (planned : List Name) → All (λ name. bytes_eq define.0.text name.name.text ≡ false) names → StandSoFar query texts defines names planned → StandSoFar query texts (defines ++ define ∷ []) names planned
  all_kept [] [] others s = s
  all_kept [] (p ∷ planned) others s = s
  all_kept (name ∷ names) [] others s = s
  all_kept (name ∷ names) (p ∷ planned) others s = (kept name p (others 0 name (omega arith)) s.0, all_kept names planned (λ i d inside. others (suc i) d (omega arith)) s.1)

  -- where no two names are alike, one of them gets this predicate and the others keep theirs
  give : (names : List PatternName) (planned : List Name) (at : ℕ) (d : PatternName) (e : Name) → AllPairs (λ one other. one.name.text ≡ other.name.text → ⊥) names → at < length names
      → (get_or names at d).name.text ≡ define.0.text → defined_in defines define.0.text ≡ None → HoldsAs (scope_of query (Some (get_or names at d))) texts define.1 pred
      → IsComparable (readable_in (scope_in query (Some (get_or names at d).element)) texts) pred → StandSoFar query texts defines names planned → StandSoFar query texts (defines ++ define ∷ []) names (slice_set planned at (with_pred (get_or planned at e)))
  give [] planned at d e single inside same new holds reads s = absurd (omega arith)
  give (name ∷ names) [] at d e single inside same new holds reads s = absurd s
  give (name ∷ names) (p ∷ planned) zero d e single inside same new holds reads s =
      (given name p same new holds reads s.0, all_kept names planned (λ i x within. false_from_ne_true _ (λ is. single 0 (suc i) x (omega arith) (omega arith) (same ∙ same_text _ _ is))) s.1)
  give (name ∷ names) (p ∷ planned) (suc at) d e single inside same new holds reads s = (
    kept name p (false_from_ne_true _ (λ is. single 0 (suc at) d (omega arith) (omega arith) (sym (same ∙ same_text _ _ is)))) s.0,
    give names planned at d e (λ i j x before within. single (suc i) (suc j) x (omega arith) (omega arith)) (omega arith) same new holds reads s.1,
  )

-- ---- the place of a name

-- the place of a name is among the names, and the name there has its text
place_within : (names : List PatternName) (text : List ℕ) (place : ℕ) (d : PatternName) → name_place names text ≡ Some place → (place < length names) × ((get_or names place d).name.text ≡ text)
place_within names text place d is =
    let k = position-Some (λ (name : PatternName). bytes_eq name.name.text text) names place d is in
    (k.0, same_text _ _ k.1)

-- the name at the place of a text is the one that is there
pub found_there : (names : List PatternName) (text : List ℕ) (place : ℕ) (name : PatternName) → name_place names text ≡ Some place → name ≡ get_or names place name → name_there names (name_place names text) ≡ Some name
found_there names text place name at here =
    ap (name_there names) at ∙ slice_get-get_or names place name (place_within names text place name at).0 ∙ ap (λ (one : PatternName). Some one) (sym here)

-- the fault of the place of a name, if it has one
pub place_fault : (names : List PatternName) (before : List (List ℕ)) (name : Ident) (result : Result ℕ CompileFault) → PlaceAnswer names before name result → defined_fault before name (name_there names (name_place names name.text)) ≡ result_err result
place_fault names before name (Ok place) answer = ap (λ o. defined_fault before name (name_there names o)) answer.1 ∙ answer.2
place_fault names before name (Err fault) answer = answer

-- ---- going through definitions

-- a name that no definition is of
none_defined : (text : List ℕ) (defines : List (Ident × Tree)) → is_among (map (λ define. define.0.text) defines) text ≡ false → defined_in defines text ≡ None
none_defined text [] e = refl
none_defined text (define ∷ defines) e =
    let here : bytes_eq define.0.text text ≡ false = bytes_eq_turned define.0.text text ∙ (or_parts (bytes_eq text define.0.text) (is_among (map (λ define. define.0.text) defines) text) e).0 in
    ap (λ (b : Bool). cond b (Some define) (defined_in defines text)) here ∙ none_defined text defines (or_parts (bytes_eq text define.0.text) (is_among (map (λ define. define.0.text) defines) text) e).1

-- the definition at hand, and those behind it
abbrev pub Behind : Query → ℕ → Ident × Tree → Option CompileFault → Type 0
Behind query at define fault = Defines query (map (λ define. define.0.text) (take at query.defines)) (define ∷ drop (at + 1) query.defines) fault

module _ (query : Query) (texts : List (List ℕ)) (names : List PatternName) (at : ℕ) (planned : List Name) (define : Ident × Tree)
    (through : GoneThrough query texts names at planned) (inside : at < length query.defines) (is : define ≡ get_or query.defines at define) (named : names ≡ pattern_names query) where
  -- what is found from here on is found in all
  pub goes_on : (fault : Option CompileFault) → Behind query at define fault → Defines query [] query.defines fault
  goes_on fault d =
      let rest : drop at query.defines ≡ define ∷ drop (at + 1) query.defines = drop_more query.defines at define inside ∙ ap (λ l. l ∷ drop (at + 1) query.defines) (sym is) in
      through.goes fault (subst (λ l. Defines query (map (λ define. define.0.text) (take at query.defines)) l fault) (sym rest) d)

  -- a name with a fault
  pub misnamed_here : (fault : CompileFault) → PlaceAnswer names (map (λ define. define.0.text) (take at query.defines)) define.0 (Err fault) → Misdefines query fault
  misnamed_here f.Memory wrong = tt
  misnamed_here fault wrong =
      goes_on (Some fault) (checks.misnamed _ define.0 define.1 _ fault (ap (λ l. defined_fault (map (λ define. define.0.text) (take at query.defines)) define.0 (name_there l (name_place l define.0.text))) (sym named) ∙ wrong))

  module _ (place : ℕ) (name : PatternName) (here : name ≡ get_or names place name) (answer : PlaceAnswer names (map (λ define. define.0.text) (take at query.defines)) define.0 (Ok place)) where
    there : defined query define.0 ≡ Some name
    there = ap (λ l. name_there l (name_place l define.0.text)) (sym named) ∙ ap (name_there names) answer.1 ∙ slice_get-get_or names place name answer.0 ∙ ap (λ (l : PatternName). Some l) (sym here)

    right : defined_fault (map (λ define. define.0.text) (take at query.defines)) define.0 (defined query define.0) ≡ None
    right = ap (defined_fault (map (λ define. define.0.text) (take at query.defines)) define.0) (ap (λ l. name_there l (name_place l define.0.text)) (sym named) ∙ ap (name_there names) answer.1) ∙ answer.2

    -- a predicate with a fault
    pub faulty_here : (fault : CompileFault) → Faulty (scope_in query (Some name.element)) define.1 fault → Misdefines query fault
    faulty_here f.Memory faulty = tt
    faulty_here fault faulty = goes_on (Some fault) (checks.faulty _ define.0 define.1 _ fault right (subst (λ o. Tests (scope_of query o) define.1 (Some fault)) (sym there) faulty))

    -- a definition without one
    pub defined_here : (pred : Pred) (e : Name) → names_fault [] names ≡ None → CompiledPred (scope_in query (Some name.element)) texts define.1 pred
        → GoneThrough query texts names (at + 1) (slice_set planned place (record { text = (get_or planned place e).text; pred = pred; consumed = (get_or planned place e).consumed }))
    defined_here pred e single compiled =
        let before = map (λ (define : Ident × Tree). define.0.text) (take at query.defines) in
        let more : take (at + 1) query.defines ≡ take at query.defines ++ define ∷ [] = take_more query.defines at define inside ∙ ap (λ l. take at query.defines ++ l ∷ []) (sym is) in
        let texts_more : map (λ (define : Ident × Tree). define.0.text) (take (at + 1) query.defines) ≡ before ++ define.0.text ∷ [] =
        map_more (λ (define : Ident × Tree). define.0.text) query.defines at define inside ∙ ap (λ (l : Ident × Tree). before ++ l.0.text ∷ []) (sym is) in
        let new : is_among before define.0.text ≡ false = (untrue (is_among before define.0.text) (f.Twice define.0.span) None (sym (ap (defined_fault before define.0) there) ∙ right)).0 in
        record {
          goes = λ fault i. goes_on fault (checks.fine _ define.0 define.1 _ fault right (subst (λ o. Tests (scope_of query o) define.1 None) (sym there) compiled.tests)
              (subst (λ l. Defines query l (drop (at + 1) query.defines) fault) texts_more i));
          stand = subst (λ l. StandSoFar query texts l names (slice_set planned place (with_pred query texts (take at query.defines) define pred (get_or planned place e)))) (sym more)
              (give query texts (take at query.defines) define pred names planned place name e (names_unlike names single) answer.0 (place_within names define.0.text place name answer.1).1
              (none_defined define.0.text (take at query.defines) new) (subst (λ n. HoldsAs (scope_of query (Some n)) texts define.1 pred) here compiled.holds_as)
              (subst (λ n. IsComparable (readable_in (scope_in query (Some n.element)) texts) pred) here compiled.comparable) through.stand);
          within = All-set (λ (name : Name). PredWithin name.pred) planned place _ compiled.within through.within;
        }

-- names stand for names where all definitions were gone through
stand_for : (query : Query) (texts : List (List ℕ)) (names : List PatternName) (planned : List Name) → StandSoFar query texts query.defines names planned → StandForNames query texts names planned
stand_for query texts [] [] s = tt
stand_for query texts [] (p ∷ planned) s = absurd s
stand_for query texts (name ∷ names) [] s = absurd s
stand_for query texts (name ∷ names) (p ∷ planned) s = (record { text = s.0.text; pred = s.0.pred; consumed = s.0.consumed }, stand_for query texts names planned s.1)

-- and read names of earlier elements alone
read_all : (query : Query) (texts : List (List ℕ)) (names : List PatternName) (planned : List Name) → StandSoFar query texts query.defines names planned → AllZip (ReadsBefore query texts) names planned
read_all query texts [] [] s = tt
read_all query texts [] (p ∷ planned) s = absurd s
read_all query texts (name ∷ names) [] s = absurd s
read_all query texts (name ∷ names) (p ∷ planned) s = (s.0.reads, read_all query texts names planned s.1)

-- all definitions were gone through
pub all_through : (query : Query) (texts : List (List ℕ)) (names : List PatternName) (at : ℕ) (planned : List Name) → GoneThrough query texts names at planned → length query.defines ≤ at → names ≡ pattern_names query → AreNames query texts planned
all_through query texts names at planned through end named = record {
  checks = through.goes None (subst (λ l. Defines query (map (λ define. define.0.text) (take at query.defines)) l None) (sym (drop_all at query.defines end)) (checks.none _));
  stand = stand_for query texts (pattern_names query) planned (subst (λ l. StandSoFar query texts query.defines l planned) named
      (subst (λ l. StandSoFar query texts l names planned) (take_all at query.defines end) through.stand));
  read = read_all query texts (pattern_names query) planned (subst (λ l. StandSoFar query texts query.defines l planned) named
      (subst (λ l. StandSoFar query texts l names planned) (take_all at query.defines end) through.stand));
  within = through.within;
}

-- ---- names without definitions

-- one name more, without a definition
push_name : (query : Query) (texts : List (List ℕ)) (names : List PatternName) (planned : List Name) (name : PatternName) (one : Name) → StandSoFar query texts [] names planned → StandsSoFar query texts [] name one → StandSoFar query texts [] (names ++ name ∷ []) (planned ++ one ∷ [])
push_name query texts [] [] name one s h = (h, tt)
push_name query texts [] (p ∷ planned) name one s h = absurd s
push_name query texts (other ∷ names) [] name one s h = absurd s
push_name query texts (other ∷ names) (p ∷ planned) name one s h = (s.0, push_name query texts names planned name one s.1 h)

-- the same, for the next of some names
pub undefined_more : (query : Query) (texts : List (List ℕ)) (names : List PatternName) (at : ℕ) (name : PatternName) (planned : List Name) (one : Name) → at < length names → name ≡ get_or names at name
    → one ≡ record { text = name.name.text; pred = Always; consumed = is_consumed query.consume name } → StandSoFar query texts [] (take at names) planned → StandSoFar query texts [] (take (at + 1) names) (planned ++ one ∷ [])
undefined_more query texts names at name planned one inside is made s =
    let more : take (at + 1) names ≡ take at names ++ name ∷ [] = take_more names at name inside ∙ ap (λ l. take at names ++ l ∷ []) (sym is) in
    subst (λ l. StandSoFar query texts [] l (planned ++ one ∷ [])) (sym more)
    (push_name query texts (take at names) planned name one s (record {
      text = ap (λ n. n.text) made;
      pred = ap (λ n. n.pred) made;
      consumed = ap (λ n. n.consumed) made;
      reads = subst (IsComparable (readable_in (scope_in query (Some name.element)) texts)) (sym (ap (λ n. n.pred) made)) tt;
    }))
