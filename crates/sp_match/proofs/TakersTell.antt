-- Which names count for a run, and what masks tell of the name under which it takes an event, or by which it is guarded.
use Rattle.std.proofs.Common.{◌≡◌, ℕ, zero, suc, ◌+◌, ◌<◌, ◌≤◌, Bool, true, false, cond, ◌&&◌, ◌||◌, eqb, List, [], ◌∷◌, Option, map, length, Some, None, refl, sym, ap, subst, ◌∙◌, inl, inr, arith}
use Rattle.std.specs.Prelude.{nat_lt, is_some, if◌then◌else◌}
use Rattle.std.specs.List.{find, filter, last_or, list_any, range_with_len}
use Rattle.std.proofs.lemmas.Bool.{cases_eq}
use Rattle.std.proofs.lemmas.Bool.Decides.{nat_tests}
use Rattle.std.proofs.lemmas.List.{get_or-map, length-map}
use Rattle.std.proofs.lemmas.List.Folds.{list_any-append}
use Rattle.sp_base.specs.Numbers.{is_among}
use Rattle.sp_plan.specs.declared.event.Event.{Event}
use Rattle.sp_plan.specs.declared.plan.Element.{Element}
use Rattle.sp_plan.specs.declared.plan.Plan.{Plan}
use Rattle.sp_plan.specs.Runs.{Pair, again, guarded, guards, is_plus, name_holds, takes, unbound, wanted}
use Rattle.sp_match.specs.declared.offer.Offer.{Offer}
use Rattle.sp_match.specs.declared.takers.Takers.{Takers}
use Rattle.sp_match.specs.inside.Effects.{run_at}
use Rattle.sp_match.specs.inside.Kept.{Kept, empty, pairs}
use Rattle.sp_match.specs.inside.Offer.{AllTold, IsToldAt, answer_by}
use Rattle.sp_match.specs.inside.Taking.{again_name, is_again, last_again, next_element}
use Rattle.sp_match.specs.inside.Takers.{IsTold, asked, is_wanted, run_in}

-- a range has the numbers from its first on that are below its end
pub before_range : (name first n : ℕ) → name < first → is_among (range_with_len first n) name ≡ false
before_range name first zero below = refl
before_range name first (suc n) below =
    let other : eqb first name ≡ false = grind (arith, nat_tests) in
    λ i. other i || before_range name (first + 1) n (omega (arith, below)) i

pub within_range : (name first n : ℕ) → first ≤ name → is_among (range_with_len first n) name ≡ nat_lt name (first + n)
within_range name first zero from = grind (arith, nat_tests)
within_range name first (suc n) from = elim (cases_eq first name) [
  | inl same ↦
      let here : eqb first name ≡ true = grind (arith, nat_tests) in
      let below : nat_lt name (first + suc n) ≡ true = grind (arith, nat_tests) in
      (λ i. here i || is_among (range_with_len (first + 1) n) name) ∙ sym below
  | inr apart ↦
      let other : eqb first name ≡ false = grind (arith, nat_tests) in
      let e : first + 1 + n ≡ first + suc n = omega arith in
      (λ i. other i || is_among (range_with_len (first + 1) n) name) ∙ within_range name (first + 1) n (omega (arith, from, apart)) ∙ ap (nat_lt name) e
]

pub among_filter : (t : ℕ → Bool) (xs : List ℕ) (name : ℕ) → is_among (filter t xs) name ≡ (is_among xs name && t name)
among_filter t [] name = refl
among_filter t (x ∷ xs) name = elim (cases_eq x name) [
  | inl same ↦
      let here : eqb x name ≡ true = grind (arith, nat_tests) in
      two (t x) here (ap t same) (among_filter t xs name)
  | inr apart ↦
      let other : eqb x name ≡ false = grind (arith, nat_tests) in
      one (t x) other (among_filter t xs name)
]
  where
    one : (b : Bool) → eqb x name ≡ false → is_among (filter t xs) name ≡ (is_among xs name && t name) → is_among (cond b (x ∷ filter t xs) (filter t xs)) name ≡ ((eqb x name || is_among xs name) && t name)
    one true other ih = (λ i. other i || is_among (filter t xs) name) ∙ ih ∙ λ i. (sym other i || is_among xs name) && t name
    one false other ih = ih ∙ λ i. (sym other i || is_among xs name) && t name

    two : (b : Bool) → eqb x name ≡ true → b ≡ t name → is_among (filter t xs) name ≡ (is_among xs name && t name) → is_among (cond b (x ∷ filter t xs) (filter t xs)) name ≡ ((eqb x name || is_among xs name) && t name)
    two true here so ih = (λ i. here i || is_among (filter t xs) name) ∙ so ∙ λ i. (sym here i || is_among xs name) && t name
    two false here so ih = ih ∙ (λ i. is_among xs name && sym so i) ∙ none (is_among xs name) ∙ so ∙ λ i. (sym here i || is_among xs name) && t name
      where
        none : (b : Bool) → (b && false) ≡ false
        none true = refl
        none false = refl

among_again : (elements : List Element) (o : Option Pair) (name : ℕ) → is_among (again elements o) name ≡ is_again name (again_name elements o)
among_again elements None name = refl
among_again elements (Some pair) name = one (list_any (is_plus pair.name) elements)
  where
    here : (b : Bool) → (b || false) ≡ b
    here true = refl
    here false = refl

    one : (b : Bool) → is_among (if b then pair.name ∷ [] else []) name ≡ is_again name (if b then Some pair.name else None)
    one true = here (eqb pair.name name)
    one false = refl

-- the names that count for a run are those that it lacks of the first element not filled, its last one where that may be bound again, and those that guard it
pub wanted_are : (q : Plan) (r : List Pair) (name : ℕ) → is_wanted q r name ≡ ((is_among (unbound r (next_element q r)) name || is_again name (last_again q r)) || is_among (guards q r) name)
wanted_are q r name =
    list_any-append (λ n. eqb n name) (wanted q r) (guards q r)
    ∙ ap (λ b. b || is_among (guards q r) name)
    (list_any-append (λ n. eqb n name) (unbound r (next_element q r)) (again q.elements (last_or None r)) ∙ ap (λ b. is_among (unbound r (next_element q r)) name || b) (among_again q.elements (last_or None r) name))

-- what passes among all names that are wanted, in a list of some of them
pub find_told : (p t : ℕ → Bool) (all xs : List ℕ) → ((n : ℕ) → t n ≡ (is_among all n && p n)) → ((n : ℕ) → is_among xs n ≡ true → is_among all n ≡ true) → find t xs ≡ find p xs
find_told p t all [] tells within = refl
find_told p t all (x ∷ xs) tells within =
    let here : eqb x x ≡ true = grind (arith, nat_tests) in
    let among : is_among all x ≡ true = within x (λ i. here i || is_among xs x) in
    let first : t x ≡ p x = tells x ∙ λ i. among i && p x in
    (λ i. cond (first i) (Some x) (find t xs)) ∙ ap (λ (o : Option ℕ). cond (p x) (Some x) o) (find_told p t all xs tells (λ n is. within n (later (eqb x n) (is_among xs n) is)))
  where
    later : (a b : Bool) → b ≡ true → (a || b) ≡ true
    later true b is = refl
    later false b is = is

pub find_nothing : (p : ℕ → Bool) (all xs : List ℕ) → ((n : ℕ) → (is_among all n && p n) ≡ false) → ((n : ℕ) → is_among xs n ≡ true → is_among all n ≡ true) → find p xs ≡ None
find_nothing p all xs none within = sym (find_told p (λ n. false) all xs (λ n. sym (none n)) within) ∙ nothing xs
  where
    nothing : (xs : List ℕ) → find (λ n. false) xs ≡ None
    nothing [] = refl
    nothing (x ∷ xs) = nothing xs

-- whether one of a list passes, by what is found in it
any_found : (p : ℕ → Bool) (xs : List ℕ) → list_any p xs ≡ is_some (find p xs)
any_found p [] = refl
any_found p (x ∷ xs) = one (p x) (any_found p xs)
  where
    one : (b : Bool) → list_any p xs ≡ is_some (find p xs) → (b || list_any p xs) ≡ is_some (cond b (Some x) (find p xs))
    one true ih = refl
    one false ih = ih

pub any_nothing : (p : ℕ → Bool) (all xs : List ℕ) → ((n : ℕ) → (is_among all n && p n) ≡ false) → ((n : ℕ) → is_among xs n ≡ true → is_among all n ≡ true) → list_any p xs ≡ false
any_nothing p all xs none within = any_found p xs ∙ ap is_some (find_nothing p all xs none within)

-- what a run may take next, and what guards it, are among the names that count for it
pub wanted_asked : (q : Plan) (r : List Pair) (n : ℕ) → is_among (wanted q r) n ≡ true → is_among (asked q r) n ≡ true
wanted_asked q r n is = list_any-append (λ m. eqb m n) (wanted q r) (guards q r) ∙ λ i. is i || is_among (guards q r) n

pub guards_asked : (q : Plan) (r : List Pair) (n : ℕ) → is_among (guards q r) n ≡ true → is_among (asked q r) n ≡ true
guards_asked q r n is = list_any-append (λ m. eqb m n) (wanted q r) (guards q r) ∙ ap (λ (b : Bool). is_among (wanted q r) n || b) is ∙ any_true (is_among (wanted q r) n)
  where
    any_true : (b : Bool) → (b || true) ≡ true
    any_true true = refl
    any_true false = refl

-- the name under which a run takes the event, by what is told of it
pub answers_take : (told : Bool) (t : Takers) (q : Plan) (e : Event) (at : ℕ) (r : List Pair) → (told ≡ true → IsTold q e t at r) → find (answer_by told t q e at r) (wanted q r) ≡ takes q r e
answers_take false t q e at r so = refl
answers_take true t q e at r so = find_told (name_holds q r e) (answer_by true t q e at r) (asked q r) (wanted q r) (so refl).names (wanted_asked q r)

-- and whether one guards it
pub answers_guard : (told : Bool) (t : Takers) (q : Plan) (e : Event) (at : ℕ) (r : List Pair) → (told ≡ true → IsTold q e t at r) → list_any (answer_by told t q e at r) (guards q r) ≡ guarded q r e
answers_guard false t q e at r so = refl
answers_guard true t q e at r so =
    any_found (answer_by true t q e at r) (guards q r) ∙ ap is_some (find_told (name_holds q r e) (answer_by true t q e at r) (asked q r) (guards q r) (so refl).names (guards_asked q r)) ∙ sym (any_found (name_holds q r e) (guards q r))

-- what is told of all runs, of the one at a place
pub told_here : (o : Offer) (ks : List Kept) (at : ℕ) (r : List Pair) → at < length ks → r ≡ pairs (run_at ks at) → AllTold o (map pairs ks) → IsToldAt o at r
told_here o ks at r within is all = λ told. subst (IsTold o.plan.now o.event.now o.takers.now at) there (all told at (omega (arith, within, length-map ks pairs)))
  where
    there : run_in (map pairs ks) at ≡ r
    there = get_or-map pairs ks at (empty 0) [] within ∙ sym is
