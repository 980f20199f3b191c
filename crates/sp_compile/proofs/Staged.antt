-- The checks of a whole query, one part after the other, and the plan of all parts.
use Rattle.std.proofs.Common.{◌≡◌, ℕ, suc, inl, inr, ◌≤◌, ◌<◌, List, [], ◌∷◌, length, map, Option, Some, None, Result, Ok, Err, IsErrAnd, refl, sym, ◌∙◌, ap, subst}
use Rattle.std.specs.Prelude.{IfOk, IfErr}
use Rattle.std.specs.List.{AllZip, last_or, range_with_len, flat_map}
use Rattle.std.proofs.lemmas.List.{length-map}
use Rattle.std.proofs.lemmas.Result.{err_from_is_err_and}
use Rattle.sp_plan.specs.declared.plan.Name.{Name}
use Rattle.sp_plan.specs.declared.plan.Opening.{Opening}
use Rattle.sp_plan.specs.declared.plan.Plan.{Plan}
use Rattle.sp_plan.specs.Comparable.{Readable, IsComparable}
use Rattle.sp_plan.specs.Compiled.{AreApart, IsCompiled, OpeningReads}
use Rattle.sp_plan.specs.Runs.{binds}
use Rattle.sp_query.specs.declared.query.Query.{Query}
use Rattle.sp_compile.specs.declared.fault.CompileFault.{CompileFault}
use Rattle.sp_compile.specs.declared.fault.CompileFault.TheVariants as f
use Rattle.sp_compile.specs.Answers.{IsNamed, bound_names}
use Rattle.sp_compile.specs.Checks.{columns_fault, time_fault, names_fault, first_fault, last_fault, ends_fault, elements_fault, Defines, length_fault, OpeningFault, consume_fault, Then, stops, goes, Finds, Checks}
use Rattle.sp_compile.specs.Gathers.{Gathers}
use Rattle.sp_compile.specs.Naming.{AreNames, Misdefines}
use Rattle.sp_compile.specs.Scopes.{pattern_names, binding_from, PatternName}
use Rattle.sp_compile.specs.Sorts.{first}
use Rattle.sp_compile.specs.Stages.{NamesPass, Misopens, EndPasses, Misends, plan_of}
use Rattle.sp_compile.specs.Stands.{plan_column, plan_elements, all_trees, StandForNames, Stands}
use Rattle.sp_compile.specs.Told.{IsPlanOf, Refuses, IsFound}
use Rattle.sp_compile.proofs.Apart.{columns_apart, columns_sound, names_apart, gathered_apart, none_apart}
use Rattle.sp_compile.proofs.Ends.{is_first, is_last, wide_sets, is_timed}
use Rattle.sp_compile.proofs.EarlierNames.{read_earlier, binding_is}
use Rattle.sp_compile.proofs.Limits.{neither, is_named}
use Rattle.sp_compile.proofs.OneFault.{one_fault}
use Rattle.sp_compile.proofs.Placed.{numbers_in_order}
use Rattle.sp_compile.proofs.Timed.{time_is_whole}
use Rattle.sp_compile.proofs.WindowLimits.{length_keeps, fine_length}

-- a fault that the checks find is told of the query
refuses : (query : Query) (fault : CompileFault) → Checks query (Some fault) → Refuses query fault
refuses query f.Memory d = tt
refuses query _ d = d

-- the exit of a `?`, where something is said of the fault
pub exit : {Y : Type 0} (P : CompileFault → Type 0) (y : Result Y CompileFault) (fault : CompileFault) → IsErrAnd y (λ z. z ≡ fault) → P fault → IfErr y P
exit P y fault h p =
    let e = err_from_is_err_and y h in
    subst (λ r. IfErr r P) (sym e.1) (subst P (sym e.2) p)

-- what is said of a fault says more
pub err_says : {Y : Type 0} (P Q : CompileFault → Type 0) (y : Result Y CompileFault) → ((fault : CompileFault) → P fault → Q fault) → IfErr y P → IfErr y Q
err_says P Q (Ok a) f h = tt
err_says P Q (Err fault) f h = f fault h

-- ---- columns, time and elements

module _ (query : Query) (fault : CompileFault) where
  pub columns_refuse : columns_fault [] query.columns ≡ Some fault → Refuses query fault
  columns_refuse e = refuses query fault (stops fault (sym e))

  module _ (columns : columns_fault [] query.columns ≡ None) where
    pub time_refuse : time_fault query.columns query.time ≡ Some fault → Refuses query fault
    time_refuse e = refuses query fault (goes (Some fault) (sym columns) (stops fault (sym e)))

    module _ (time : time_fault query.columns query.time ≡ None) where
      elements_refuse : elements_fault query ≡ Some fault → Refuses query fault
      elements_refuse e = refuses query fault (goes (Some fault) (sym columns) (goes (Some fault) (sym time) (stops fault (sym e))))

      pub names_refuse : names_fault [] (pattern_names query) ≡ Some fault → Refuses query fault
      names_refuse e = elements_refuse (ap (λ o. first o (ends_fault query.elements)) e)

      module _ (names : names_fault [] (pattern_names query) ≡ None) where
        ends_refuse : ends_fault query.elements ≡ Some fault → Refuses query fault
        ends_refuse e = elements_refuse (ap (λ o. first o (ends_fault query.elements)) names ∙ e)

        pub first_refuse : first_fault query.elements ≡ Some fault → Refuses query fault
        first_refuse e = ends_refuse (ap (λ o. first o (last_fault (last_or None query.elements))) e)

        pub last_refuse : first_fault query.elements ≡ None → last_fault (last_or None query.elements) ≡ Some fault → Refuses query fault
        last_refuse none e = ends_refuse (ap (λ o. first o (last_fault (last_or None query.elements))) none ∙ e)

-- ---- behind these

module _ (query : Query) (listed : List PatternName) (named : NamesPass query listed) where
  -- what the checks behind the elements find is found in all
  after_names : (fault : Option CompileFault) → Then (Defines query [] query.defines) (Then (Finds (length_fault query)) (Then (OpeningFault query query.opening) (Finds (consume_fault query query.consume)))) fault → Checks query fault
  after_names fault d = goes fault (sym named.columns) (goes fault (sym named.time) (goes fault (sym named.elements) d))

  pub names_known : IsNamed query
  names_known = is_named query named.columns (neither (names_fault [] (pattern_names query)) (ends_fault query.elements) named.elements).0

  pub defines_refuse : (fault : CompileFault) → Misdefines query fault → Refuses query fault
  defines_refuse f.Memory d = tt
  defines_refuse fault d = after_names (Some fault) (stops fault d)

  module _ (defines : Defines query [] query.defines None) where
    pub ending_refuses : (fault : CompileFault) → Misends query fault → Refuses query fault
    ending_refuses f.Memory d = tt
    ending_refuses fault d = after_names (Some fault) (goes (Some fault) defines d)

    all_pass : length_fault query ≡ None → OpeningFault query query.opening None → consume_fault query query.consume ≡ None → Checks query None
    all_pass fits opens e = after_names None (goes None defines (goes None (sym fits) (goes None opens (sym e))))

-- ---- behind the definitions

module _ (query : Query) where
  ending_found : (fault : CompileFault) → Then (Finds (length_fault query)) (Then (OpeningFault query query.opening) (Finds (consume_fault query query.consume))) (Some fault) → Misends query fault
  ending_found f.Memory d = tt
  ending_found _ d = d

  pub length_ends : (fault : CompileFault) → length_fault query ≡ Some fault → Misends query fault
  length_ends fault e = ending_found fault (stops fault (sym e))

  module _ (fits : length_fault query ≡ None) where
    pub opening_ends : (fault : CompileFault) → Misopens query fault → Misends query fault
    opening_ends f.Memory d = tt
    opening_ends fault d = goes (Some fault) (sym fits) (stops fault d)

    pub consume_ends : OpeningFault query query.opening None → (fault : CompileFault) → consume_fault query query.consume ≡ Some fault → Misends query fault
    consume_ends opens fault e = ending_found fault (goes (Some fault) (sym fits) (goes (Some fault) opens (sym e)))

-- ---- the plan

-- as many names of the plan as of the pattern
as_many : (query : Query) (texts : List (List ℕ)) (names : List PatternName) (planned : List Name) → StandForNames query texts names planned → length planned ≡ length names
as_many query texts [] [] s = refl
as_many query texts [] (p ∷ planned) s = absurd s
as_many query texts (name ∷ names) [] s = absurd s
as_many query texts (name ∷ names) (p ∷ planned) s = ap (λ (n : ℕ). suc n) (as_many query texts names planned s.1)

module _ (query : Query) (listed : List PatternName) (texts : List (List ℕ)) (planned : List Name) (opening : Opening) (named : NamesPass query listed) (names : AreNames query texts planned) (ends : EndPasses query texts opening) where
  -- the plan stands for the query
  plan_stands : Gathers (all_trees query) [] texts → Stands (plan_of query planned opening texts) query
  plan_stands gathers = record {
    columns = refl;
    time = refl;
    literals = gathers.literals;
    of_trees = gathers.of_trees;
    texts = gathers.gathered;
    names = names.stand;
    elements = refl;
    select = refl;
    length = refl;
    opening = ends.opens.stands;
  }

  -- what predicates read where these names bind events
  abbrev may_read : ℕ → List ℕ → Readable
  may_read before binding = record { columns = map plan_column query.columns; texts = length texts; names = before; binding = binding }

  -- the names of the plan that bind events are those of the pattern
  binding : binding_from 0 (pattern_names query) ≡ flat_map binds (plan_elements 0 query.elements)
  binding = sym (binding_is query.elements 0 0)

  names_read : AllZip (λ name one. IsComparable (may_read (bound_names (pattern_names query) (Some name.element)) (flat_map binds (plan_elements 0 query.elements))) one.pred) (pattern_names query) planned
  names_read = subst (λ (l : List ℕ). AllZip (λ name one. IsComparable (may_read (bound_names (pattern_names query) (Some name.element)) l) one.pred) (pattern_names query) planned) binding names.read

  opening_read : OpeningReads (may_read 0 (flat_map binds (plan_elements 0 query.elements))) opening
  opening_read = subst (λ (l : List ℕ). OpeningReads (may_read 0 l) opening) binding ends.opens.reads

  -- and keeps the limits
  plan_compiled : Gathers (all_trees query) [] texts → IsCompiled (plan_of query planned opening texts)
  plan_compiled gathers =
      let known = names_known query listed named in
      let many : length planned ≡ length (pattern_names query) = as_many query texts (pattern_names query) planned names.stand in
      let single = neither (names_fault [] (pattern_names query)) (ends_fault query.elements) named.elements in
      let both = neither (first_fault query.elements) (last_fault (last_or None query.elements)) single.1 in
      let fine = fine_length query ends.fits in
      record {
        columns = subst (λ (n : ℕ). n ≤ 64) (sym (length-map query.columns plan_column)) known.columns;
        columns_apart = columns_apart query.columns named.columns;
        kinds = columns_sound query.columns named.columns;
        time = time_is_whole query.columns query.time named.time;
        names = subst (λ (n : ℕ). n ≤ 32) (sym many) known.names;
        some_name = subst (λ (n : ℕ). 0 < n) (sym many) named.some;
        names_apart = names_apart query texts (pattern_names query) planned names.stand single.0;
        elements = numbers_in_order query.elements 0 ∙ ap (λ (n : ℕ). range_with_len 0 n) (sym many);
        sets = wide_sets query.elements 0 named.wide;
        first = is_first query.elements named.some both.0;
        last = is_last query.elements named.some both.1;
        preds = names.within;
        reads = read_earlier (plan_of query planned opening texts) query.elements planned names_read;
        opening = ends.opens.within;
        opening_reads = opening_read;
        windowed = record {
          length_is = length_keeps query.time query.length.0 query.length.1 fine;
          opening_is = ends.opens.opens;
        };
        timed = is_timed query.columns query.time query.length.0 query.length.1 named.time fine;
        texts_apart = subst AreApart (sym gathers.gathered) (gathered_apart gathers.literals [] none_apart);
      }

  -- it is the query's
  pub is_plan : (q : Plan) → Gathers (all_trees query) [] texts → q ≡ plan_of query planned opening texts → IsPlanOf q query
  is_plan q gathers is = subst (λ p. IsPlanOf p query) (sym is) (record {
    checks = all_pass query listed named names.checks ends.fits ends.opens.checks ends.consumed;
    stands = plan_stands gathers;
    compiled = plan_compiled gathers;
  })

-- ---- one answer

-- what the checks find is what was answered
pub is_found : (query : Query) (found : Option CompileFault) (result : Result Plan CompileFault) → IfOk result (λ plan. IsPlanOf plan query) → IfErr result (λ fault. Refuses query fault) → Checks query found → IsFound found result
is_found query found (Ok plan) is refused checks = one_fault query found None checks is.checks
is_found query found (Err f.Memory) is refused checks = inr refl
is_found query found (Err fault) is refused checks = inl (one_fault query found (Some fault) checks refused)
