-- What a run may take next is the same where it binds its last name once more.
use Rattle.std.proofs.Common.{◌≡◌, ℕ, Bool, true, false, not, ◌||◌, ◌==◌, List, [], ◌∷◌, ◌++◌, Option, Some, None, refl, sym, ap, subst, ◌∙◌, arith}
use Rattle.std.specs.Prelude.{IfSome, find, if◌then◌else◌}
use Rattle.std.specs.Option.{option_map}
use Rattle.std.specs.List.{last_or, list_all, list_any}
use Rattle.std.proofs.lemmas.Bool.Decides.{nat_tests}
use Rattle.std.proofs.lemmas.List.Folds.{list_any-append}
use Rattle.sp_base.specs.Numbers.{is_among}
use Rattle.sp_plan.specs.declared.event.Event.{Event}
use Rattle.sp_plan.specs.declared.plan.Element.{Element}
use Rattle.sp_plan.specs.declared.plan.Plan.{Plan}
use Rattle.sp_plan.specs.Runs.{Pair, behind, binds, guards, guards_behind, is_bound, is_filled, is_plus, leading}
use Rattle.sp_match.specs.declared.run.Ahead.{Ahead}
use Rattle.sp_match.specs.inside.Kept.{Kept, grown, pairs}
use Rattle.sp_match.specs.inside.Good.{Good}
use Rattle.sp_match.specs.inside.Taking.{IsAhead, ahead_if, ahead_still, again_name, guard_range, is_again, last_again, next_element, range_of}
use Rattle.sp_match.proofs.GrownRunIsGood.{itself, last_push}
use Rattle.sp_match.proofs.PairsOfRuns.{pairs_push}

-- the name of the last pair is bound
last_bound : (r : List Pair) (p last : Pair) → last_or (Some p) r ≡ Some last → ((p.name == last.name) || is_bound r last.name) ≡ true
last_bound [] p last is = let same : p ≡ last = cc in (λ i. ((same i).name == last.name) || false) ∙ (λ i. itself last.name i || false)
last_bound (next ∷ r) p last is = (λ i. (p.name == last.name) || last_bound r next last is i) ∙ or_true (p.name == last.name)
  where
    or_true : (b : Bool) → (b || true) ≡ true
    or_true true = refl
    or_true false = refl

pub is_last_bound : (r : List Pair) (last : Pair) → last_or None r ≡ Some last → is_bound r last.name ≡ true
is_last_bound [] last is = absurd (cc is)
is_last_bound (p ∷ r) last is = last_bound r p last is

-- one pair more of a name that is bound binds no other name
pub same_bound : (r : List Pair) (p : Pair) → is_bound r p.name ≡ true → (n : ℕ) → is_bound (r ++ p ∷ []) n ≡ is_bound r n
same_bound r p bound n = list_any-append (λ pair. pair.name == n) r (p ∷ []) ∙ one (p.name == n) refl
  where
    any_same : (b : Bool) → (b || (false || false)) ≡ b
    any_same true = refl
    any_same false = refl

    one : (b : Bool) → (p.name == n) ≡ b → (is_bound r n || ((p.name == n) || false)) ≡ is_bound r n
    one true e =
        let same : p.name ≡ n = grind (arith, nat_tests) in
        let here : is_bound r n ≡ true = ap (is_bound r) (sym same) ∙ bound in
        (λ i. here i || ((p.name == n) || false)) ∙ sym here
    one false e = (λ i. is_bound r n || (e i || false)) ∙ any_same (is_bound r n)

-- so the next element is the same
pub same_next : (q : Plan) (r : List Pair) (p : Pair) → is_bound r p.name ≡ true → next_element q (r ++ p ∷ []) ≡ next_element q r
same_next q r p bound = λ i. find (λ element. not (list_all (λ n. same_bound r p bound n i) (binds element))) q.elements

-- and the same names guard it, where that is the name of the last pair
pub same_guards : (q : Plan) (r : List Pair) (p : Pair) → is_bound r p.name ≡ true → option_map (λ (x : Pair). x.name) (last_or None r) ≡ Some p.name → guards q r ≡ guards q (r ++ p ∷ [])
same_guards q r p bound last = of_last (last_or None r) last ∙ ap (guards_behind q.elements (r ++ p ∷ [])) (sym (last_push None r p))
  where
    filled : (element : Element) → is_filled r element ≡ is_filled (r ++ p ∷ []) element
    filled element = sym (λ i. list_all (λ n. same_bound r p bound n i) (binds element))

    behind_same : (name : ℕ) (elements : List Element) → behind r name elements ≡ behind (r ++ p ∷ []) name elements
    behind_same name [] = refl
    behind_same name (element ∷ elements) = λ i. if is_among (binds element) name then (if filled element i then elements else []) else behind_same name elements i

    of_last : (o : Option Pair) → option_map (λ (x : Pair). x.name) o ≡ Some p.name → guards_behind q.elements r o ≡ guards_behind q.elements (r ++ p ∷ []) (Some p)
    of_last None is = absurd (cc is)
    of_last (Some pair) is = let same : pair.name ≡ p.name = cc in ap leading (behind_same pair.name q.elements) ∙ ap (λ (n : ℕ). leading (behind (r ++ p ∷ []) n q.elements)) same

-- where the last name may be bound once more, it is that name
again_is : (q : Plan) (r : List Pair) (name : ℕ) (o : Option Pair) → last_or None r ≡ o → is_again name (again_name q.elements o) ≡ true → (is_bound r name ≡ true) × (list_any (is_plus name) q.elements ≡ true)
again_is q r name None is again = absurd (cc again)
again_is q r name (Some last) is again = one (list_any (is_plus last.name) q.elements) refl again
  where
    one : (b : Bool) → list_any (is_plus last.name) q.elements ≡ b → is_again name (if b then Some last.name else None) ≡ true → (is_bound r name ≡ true) × (list_any (is_plus name) q.elements ≡ true)
    one true e a =
        let same : last.name ≡ name = grind (arith, nat_tests) in
        (subst (λ n. is_bound r n ≡ true) same (is_last_bound r last is), subst (λ n. list_any (is_plus n) q.elements ≡ true) same e)
    one false e a = absurd (cc a)

last_is : (q : Plan) (name : ℕ) (o : Option Pair) → is_again name (again_name q.elements o) ≡ true → option_map (λ (x : Pair). x.name) o ≡ Some name
last_is q name None again = absurd (cc again)
last_is q name (Some last) again = one (list_any (is_plus last.name) q.elements) again
  where
    one : (b : Bool) → is_again name (if b then Some last.name else None) ≡ true → Some last.name ≡ Some name
    one true a = let same : last.name ≡ name = grind (arith, nat_tests) in ap Some same
    one false a = absurd (cc a)

again_name_is : (name : ℕ) (o : Option ℕ) → is_again name o ≡ true → o ≡ Some name
again_name_is name None is = absurd (cc is)
again_name_is name (Some again) is = let same : again ≡ name = grind (arith, nat_tests) in ap Some same

pub still_ahead : (q : Plan) (name number : ℕ) (consumed : Bool) (event : Event) (k : Kept) → Good q k → IfSome (ahead_still name k) (λ ahead. IsAhead q (pairs (grown name consumed number event k)) ahead)
still_ahead q name number consumed event k g = one k.ahead g.ahead_is
  where
    pair : Pair
    pair = record { name = name; number = number; event = event }

    more : pairs (grown name consumed number event k) ≡ pairs k ++ pair ∷ []
    more = pairs_push k.bound k.events name number event g.same_names

    two : (ahead : Ahead) → IsAhead q (pairs k) ahead → (b : Bool) → is_again name ahead.again ≡ b → IfSome (if b then Some ahead else None) (λ ahead. IsAhead q (pairs (grown name consumed number event k)) ahead)
    two ahead is true e =
        let again = ap (is_again name) (sym is.1) ∙ e in
        let known = again_is q (pairs k) name (last_or None (pairs k)) refl again in (
          is.0 ∙ sym (same_next q (pairs k) pair known.0) ∙ ap (next_element q) (sym more),
          again_name_is name ahead.again e ∙ (λ i. if sym known.1 i then Some name else None) ∙ ap (again_name q.elements) (sym (last_push None (pairs k) pair)) ∙ ap (last_again q) (sym more),
          is.2 ∙ ap range_of (same_guards q (pairs k) pair known.0 (last_is q name (last_or None (pairs k)) again)) ∙ ap (guard_range q) (sym more),
        )
    two ahead is false e = tt

    one : (o : Option Ahead) → IfSome o (λ ahead. IsAhead q (pairs k) ahead) → IfSome (ahead_if name o) (λ ahead. IsAhead q (pairs (grown name consumed number event k)) ahead)
    one None is = tt
    one (Some ahead) is = two ahead is (is_again name ahead.again) refl
