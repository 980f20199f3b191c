-- What the versions of a core keep from their children is what the machine's versions withhold.
use Rattle.std.proofs.Common.{◌≡◌, ℕ, Bool, true, false, cond, ◌&&◌, ◌||◌, ◌==◌, ◌++◌, List, [], ◌∷◌, map, filter, refl, sym, ap, ◌∙◌, arith}
use Rattle.std.specs.Prelude.{slice_get, nat_lt}
use Rattle.std.specs.List.{list_any, flat_map}
use Rattle.std.proofs.lemmas.Bool.Decides.{nat_tests}
use Rattle.std.proofs.lemmas.List.{map-append}
use Rattle.std.proofs.lemmas.List.Elements.{filter-append}
use Rattle.std.proofs.lemmas.List.Folds.{list_any-append}
use Rattle.sp_base.specs.Numbers.{is_among, with_number, with_numbers}
use Rattle.sp_plan.specs.declared.event.Event.{Event}
use Rattle.sp_plan.specs.declared.plan.Plan.{Plan}
use Rattle.sp_plan.specs.Groups.{used_by_all}
use Rattle.sp_plan.specs.Moves.{is_run, pairs_of}
use Rattle.sp_plan.specs.Runs.{Pair, Run, Started, State, is_consumed, used}
use Rattle.sp_group.specs.Machine.{Ticket, inner, is_named, is_withheld}
use Rattle.sp_version.specs.declared.version.Version.{Version}
use Rattle.sp_tree.specs.Grown.{Entry}
use Rattle.sp_core.specs.Holding.{Holds, version_of}
use Rattle.sp_core.specs.Withheld.{is_kept_back}
use Rattle.sp_core.proofs.Alike.{used_alike}

used_append : (q : Plan) (a b : Run) → used q (a ++ b) ≡ used q a ++ used q b
used_append q a b =
    let consumed : Pair → Bool = λ pair. is_consumed (slice_get q.names pair.name) in
    ap (map (λ (pair : Pair). pair.number)) (filter-append consumed a b) ∙ map-append (λ (pair : Pair). pair.number) (filter consumed a) (filter consumed b)

among_append : (ms ns : List ℕ) (i : ℕ) → is_among (ms ++ ns) i ≡ (is_among ms i || is_among ns i)
among_append ms ns i = list_any-append (λ (m : ℕ). m == i) ms ns

-- a number more in a rising list
or_swaps : (a b c : Bool) → (a || (b || c)) ≡ (b || (a || c))
or_swaps true true c = refl
or_swaps true false c = refl
or_swaps false b c = refl

or_again : (a b : Bool) → (a || b) ≡ (a || (a || b))
or_again true b = refl
or_again false b = refl

among_number : (ms : List ℕ) (n i : ℕ) → is_among (with_number ms n) i ≡ (n == i || is_among ms i)
among_number [] n i = refl
among_number (m ∷ ms) n i = one (nat_lt n m) (m == n) refl (among_number ms n i)
  where
    one : (b c : Bool) → (m == n) ≡ c → is_among (with_number ms n) i ≡ (n == i || is_among ms i)
        → is_among (cond b (n ∷ m ∷ ms) (cond c (m ∷ ms) (m ∷ with_number ms n))) i ≡ (n == i || (m == i || is_among ms i))
    one true c is rest = refl
    one false true is rest =
        let same : m ≡ n = grind (arith, nat_tests) in
        or_again (m == i) (is_among ms i) ∙ ap (λ (k : ℕ). k == i || (m == i || is_among ms i)) same
    one false false is rest = ap (λ (b : Bool). m == i || b) rest ∙ or_swaps (m == i) (n == i) (is_among ms i)

-- what is among numbers that are put in order
among_numbers : (ms ns : List ℕ) (i : ℕ) → is_among (with_numbers ms ns) i ≡ (is_among ms i || is_among ns i)
among_numbers ms [] i = or_none (is_among ms i)
  where
    or_none : (a : Bool) → a ≡ (a || false)
    or_none true = refl
    or_none false = refl
among_numbers ms (n ∷ ns) i =
    among_numbers (with_number ms n) ns i ∙ ap (λ (b : Bool). b || is_among ns i) (among_number ms n i) ∙ swap (n == i) (is_among ms i) (is_among ns i)
  where
    swap : (a b c : Bool) → ((a || b) || c) ≡ (b || (a || c))
    swap true true c = refl
    swap true false c = refl
    swap false b c = refl

-- a test that holds of some run of a label, for one run and for the others
any_more : (here : ℕ → Bool) (b : Bool) (later : ℕ → Bool) (label : List ℕ)
    → list_any (λ r. (here r && b) || later r) label ≡ ((list_any here label && b) || list_any later label)
any_more here b later [] = refl
any_more here b later (r ∷ label) =
    ap (λ (c : Bool). ((here r && b) || later r) || c) (any_more here b later label) ∙ swap (here r) b (later r) (list_any here label) (list_any later label)
  where
    swap : (h b l hs ls : Bool) → (((h && b) || l) || ((hs && b) || ls)) ≡ (((h || hs) && b) || (l || ls))
    swap true true l hs ls = refl
    swap true false true true ls = refl
    swap true false true false ls = refl
    swap true false false true ls = refl
    swap true false false false ls = refl
    swap false true true true ls = refl
    swap false true true false ls = refl
    swap false true false true ls = refl
    swap false true false false ls = refl
    swap false false true true ls = refl
    swap false false true false ls = refl
    swap false false false true ls = refl
    swap false false false false ls = refl

any_alike : {X : Type 0} (p t : X → Bool) → ((x : X) → p x ≡ t x) → (xs : List X) → list_any p xs ≡ list_any t xs
any_alike p t same [] = refl
any_alike p t same (x ∷ xs) = ap (λ (b : Bool). b || list_any p xs) (same x) ∙ ap (λ (b : Bool). t x || b) (any_alike p t same xs)

never : (label : List ℕ) → list_any (λ r. false) label ≡ false
never [] = refl
never (r ∷ label) = never label

equal_swaps : (a b : ℕ) → (a == b) ≡ (b == a)
equal_swaps a b = grind (arith, nat_tests)

-- the group of a number, with one run more in front
group_more : (q : Plan) (run : Started) (runs : List Started) (i r : ℕ)
    → is_among (used q (pairs_of (run ∷ runs) r)) i ≡ ((r == run.0 && is_among (used q run.1) i) || is_among (used q (pairs_of runs r)) i)
group_more q run runs i r = one (is_run r run) ∙ ap (λ (b : Bool). (b && is_among (used q run.1) i) || is_among (used q (pairs_of runs r)) i) (equal_swaps run.0 r)
  where
    rest : Run
    rest = pairs_of runs r

    one : (b : Bool) → is_among (used q (flat_map (λ (x : Started). x.1) (cond b (run ∷ filter (is_run r) runs) (filter (is_run r) runs)))) i
        ≡ ((b && is_among (used q run.1) i) || is_among (used q rest) i)
    one true = ap (λ (ns : List ℕ). is_among ns i) (used_append q run.1 rest) ∙ among_append (used q run.1) (used q rest) i
    one false = refl

-- run by run, or number by number of the label
pub named_alike : (q : Plan) (runs : List Started) (label : List ℕ) (i : ℕ)
    → list_any (λ (run : Started). is_among label run.0 && is_among (used q run.1) i) runs ≡ list_any (λ r. is_among (used q (pairs_of runs r)) i) label
named_alike q [] label i = sym (never label)
named_alike q (run ∷ runs) label i =
    ap (λ (b : Bool). (is_among label run.0 && is_among (used q run.1) i) || b) (named_alike q runs label i)
    ∙ sym (any_more (λ (r : ℕ). r == run.0) (is_among (used q run.1) i) (λ (r : ℕ). is_among (used q (pairs_of runs r)) i) label)
    ∙ sym (any_alike (λ (r : ℕ). is_among (used q (pairs_of (run ∷ runs) r)) i)
    (λ (r : ℕ). (r == run.0 && is_among (used q run.1) i) || is_among (used q (pairs_of runs r)) i) (group_more q run runs i) label)

-- what an entry keeps from a child of a label
pub kept_back_alike : (q : Plan) (events : List Event) (tickets : List Ticket) (e : Entry Version) (label : List ℕ) (i : ℕ) → Holds q events tickets e
    → is_kept_back e.value label i ≡ is_withheld q (inner q events (version_of e)) label i
kept_back_alike q events tickets e label i holds =
    let s : State = inner q events (version_of e) in
    let p = e.value.matcher.plan in
    let runs = e.value.matcher.open_runs in
    let matched : is_among e.value.used.list i ≡ is_among (used_by_all q s) i =
    ap (λ (ns : List ℕ). is_among ns i) holds.used ∙ among_numbers [] (used_by_all q s) i in
    let plan : list_any (λ (run : Started). is_among label run.0 && is_among (used p run.1) i) runs ≡ list_any (λ (run : Started). is_among label run.0 && is_among (used q run.1) i) runs =
    any_alike (λ (run : Started). is_among label run.0 && is_among (used p run.1) i) (λ (run : Started). is_among label run.0 && is_among (used q run.1) i)
    (λ run. ap (λ (ns : List ℕ). is_among label run.0 && is_among ns i) (used_alike p q holds.plan run.1)) runs in
    let same : list_any (λ (run : Started). is_among label run.0 && is_among (used q run.1) i) runs ≡ is_named q s label i =
    ap (list_any (λ (run : Started). is_among label run.0 && is_among (used q run.1) i)) holds.stands.open_is ∙ named_alike q s.open_runs label i in
    ap (λ (b : Bool). b || list_any (λ (run : Started). is_among label run.0 && is_among (used p run.1) i) runs) matched
    ∙ ap (λ (b : Bool). is_among (used_by_all q s) i || b) (plan ∙ same)
