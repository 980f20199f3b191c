-- The name under which a run takes an event is one of the plan's, and not negated.
use Rattle.std.proofs.Common.{◌≡◌, ℕ, ◌<◌, Bool, true, false, cond, not, ◌||◌, ◌==◌, List, [], ◌∷◌, length, Option, Some, None, refl, sym, ap, ◌∙◌, arith}
use Rattle.std.specs.Prelude.{slice_get}
use Rattle.std.specs.List.{find, filter, flat_map, last_or, list_any}
use Rattle.std.proofs.lemmas.Bool.Decides.{nat_tests}
use Rattle.std.proofs.lemmas.List.Folds.{list_any-append}
use Rattle.std.proofs.lemmas.Option.{slice_get_within}
use Rattle.sp_base.specs.Numbers.{is_among}
use Rattle.sp_plan.specs.declared.event.Event.{Event}
use Rattle.sp_plan.specs.declared.plan.Element.{Element}
use Rattle.sp_plan.specs.declared.plan.Element.TheVariants.{One, Plus, Set, Never}
use Rattle.sp_plan.specs.declared.plan.Name.{Name}
use Rattle.sp_plan.specs.declared.plan.Plan.{Plan}
use Rattle.sp_plan.specs.Runs.{Pair, Run, again, binds, bound_names, fits_name, is_bound, is_filled, is_plus, name_holds, takes, unbound, wanted}

found_holds : (p : ℕ → Bool) (xs : List ℕ) (n : ℕ) → find p xs ≡ Some n → p n ≡ true
found_holds p [] n e = cc
found_holds p (x ∷ xs) n e = one (p x) refl e (found_holds p xs n)
  where
    one : (b : Bool) → p x ≡ b → cond b (Some x) (find p xs) ≡ Some n → (find p xs ≡ Some n → p n ≡ true) → p n ≡ true
    one true holds is ih = let same : x ≡ n = cc in sym (ap p same) ∙ holds
    one false fails is ih = ih is

pub takes_named : (q : Plan) (r : Run) (e : Event) (n : ℕ) → takes q r e ≡ Some n → n < length q.names
takes_named q r e n is = one (slice_get q.names n) refl (found_holds (name_holds q r e) (wanted q r) n is)
  where
    one : (o : Option Name) → slice_get q.names n ≡ o → fits_name o r e ≡ true → n < length q.names
    one None at fits = absurd (let f : false ≡ true = fits in cc)
    one (Some name) at fits = slice_get_within q.names n name at

-- ---- it binds events

found_among : (p : ℕ → Bool) (xs : List ℕ) (n : ℕ) → find p xs ≡ Some n → is_among xs n ≡ true
found_among p [] n e = absurd (cc e)
found_among p (x ∷ xs) n e = one (p x) (found_among p xs n) e
  where
    one : (b : Bool) → (find p xs ≡ Some n → is_among xs n ≡ true) → cond b (Some x) (find p xs) ≡ Some n → ((x == n) || is_among xs n) ≡ true
    one true ih is =
        let same : x ≡ n = cc in
        let here : (x == n) ≡ true = grind (arith, nat_tests) in
        λ i. here i || is_among xs n
    one false ih is = either (x == n) (ih is)
      where
        either : (b : Bool) → is_among xs n ≡ true → (b || is_among xs n) ≡ true
        either true so = refl
        either false so = so

-- one of some numbers that pass is one of them
among_passing : (t : ℕ → Bool) (xs : List ℕ) (n : ℕ) → is_among (filter t xs) n ≡ true → is_among xs n ≡ true
among_passing t [] n is = is
among_passing t (x ∷ xs) n is = one (t x) (among_passing t xs n) is
  where
    two : (b : Bool) → (is_among (filter t xs) n ≡ true → is_among xs n ≡ true) → (b || is_among (filter t xs) n) ≡ true → (b || is_among xs n) ≡ true
    two true ih so = refl
    two false ih so = ih so

    three : (b : Bool) → is_among xs n ≡ true → (b || is_among xs n) ≡ true
    three true so = refl
    three false so = so

    one : (b : Bool) → (is_among (filter t xs) n ≡ true → is_among xs n ≡ true) → is_among (cond b (x ∷ filter t xs) (filter t xs)) n ≡ true → ((x == n) || is_among xs n) ≡ true
    one true ih so = two (x == n) ih so
    one false ih so = three (x == n) (ih so)

-- a name of an element, or of one of those behind it
among_first : (element : Element) (elements : List Element) (n : ℕ) → is_among (binds element) n ≡ true → is_among (flat_map binds (element ∷ elements)) n ≡ true
among_first element elements n is = list_any-append (λ m. m == n) (binds element) (flat_map binds elements) ∙ λ i. is i || is_among (flat_map binds elements) n

among_rest : (element : Element) (elements : List Element) (n : ℕ) → is_among (flat_map binds elements) n ≡ true → is_among (flat_map binds (element ∷ elements)) n ≡ true
among_rest element elements n is = list_any-append (λ m. m == n) (binds element) (flat_map binds elements) ∙ ap (λ (b : Bool). is_among (binds element) n || b) is ∙ any_true (is_among (binds element) n)
  where
    any_true : (b : Bool) → (b || true) ≡ true
    any_true true = refl
    any_true false = refl

unbound_binds : (r : Run) (elements : List Element) (n : ℕ) → is_among (unbound r (find (λ element. not (is_filled r element)) elements)) n ≡ true → is_among (flat_map binds elements) n ≡ true
unbound_binds r [] n is = is
unbound_binds r (element ∷ elements) n is = one (not (is_filled r element)) (unbound_binds r elements n) is
  where
    one : (b : Bool) → (is_among (unbound r (find (λ element. not (is_filled r element)) elements)) n ≡ true → is_among (flat_map binds elements) n ≡ true)
        → is_among (unbound r (cond b (Some element) (find (λ element. not (is_filled r element)) elements))) n ≡ true → is_among (flat_map binds (element ∷ elements)) n ≡ true
    one true ih so = among_first element elements n (among_passing (λ name. not (is_bound r name)) (binds element) n so)
    one false ih so = among_rest element elements n (ih so)

plus_binds : (n : ℕ) (elements : List Element) → list_any (is_plus n) elements ≡ true → is_among (flat_map binds elements) n ≡ true
plus_binds n [] is = is
plus_binds n (element ∷ elements) is = one (is_plus n element) refl (plus_binds n elements) is
  where
    own : (element : Element) → is_plus n element ≡ true → is_among (binds element) n ≡ true
    own (Plus b) so = λ i. so i || false
    own (One a) so = absurd (let f : false ≡ true = so in cc)
    own (Set first count) so = absurd (let f : false ≡ true = so in cc)
    own (Never a) so = absurd (let f : false ≡ true = so in cc)

    one : (b : Bool) → is_plus n element ≡ b → (list_any (is_plus n) elements ≡ true → is_among (flat_map binds elements) n ≡ true) → (b || list_any (is_plus n) elements) ≡ true → is_among (flat_map binds (element ∷ elements)) n ≡ true
    one true so ih either = among_first element elements n (own element so)
    one false so ih either = among_rest element elements n (ih either)

again_binds : (elements : List Element) (o : Option Pair) (n : ℕ) → is_among (again elements o) n ≡ true → is_among (flat_map binds elements) n ≡ true
again_binds elements None n is = absurd (let f : false ≡ true = is in cc)
again_binds elements (Some pair) n is = one (list_any (is_plus pair.name) elements) refl is
  where
    one : (b : Bool) → list_any (is_plus pair.name) elements ≡ b → is_among (cond b (pair.name ∷ []) []) n ≡ true → is_among (flat_map binds elements) n ≡ true
    one true plus so = let same : pair.name ≡ n = grind (arith, nat_tests) in sym (ap (is_among (flat_map binds elements)) same) ∙ plus_binds pair.name elements plus
    one false plus so = absurd (let f : false ≡ true = so in cc)

pub takes_binding : (q : Plan) (r : Run) (e : Event) (n : ℕ) → takes q r e ≡ Some n → is_among (bound_names q) n ≡ true
takes_binding q r e n is =
    let first = unbound r (find (λ element. not (is_filled r element)) q.elements) in
    let rest = again q.elements (last_or None r) in
    let found : (is_among first n || is_among rest n) ≡ true = sym (list_any-append (λ m. m == n) first rest) ∙ found_among (name_holds q r e) (wanted q r) n is in
    one (is_among first n) refl found
  where
    one : (b : Bool) → is_among (unbound r (find (λ element. not (is_filled r element)) q.elements)) n ≡ b → (b || is_among (again q.elements (last_or None r)) n) ≡ true → is_among (bound_names q) n ≡ true
    one true own either = unbound_binds r q.elements n own
    one false own either = again_binds q.elements (last_or None r) n either
