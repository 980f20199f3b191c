-- Names as bits of a number: which are there when one more is, and that none counts where two masks have none in common.
use Rattle.std.proofs.Common.{◌≡◌, ℕ, ◌+◌, ◌-◌, ◌<◌, ◌≤◌, Bool, true, false, cond, ◌||◌, eqb, List, [], ◌∷◌, Option, Some, None, IfSome, drop, get_or, length, min, refl, sym, ap, subst, ◌∙◌, inl, inr, arith, bit_and}
use Rattle.std.specs.Int.{bit_at}
use Rattle.std.specs.List.{All, find, list_any, range_with_len}
use Rattle.std.specs.Option.{option_to_list}
use Rattle.std.proofs.lemmas.Bool.{cases_eq}
use Rattle.std.proofs.lemmas.Bool.Decides.{nat_tests}
use Rattle.std.proofs.lemmas.List.{drop_more}
use Rattle.std.proofs.lemmas.List.Elements.{All-cons, All-head, All-nil, All-push, All-tail, All-weaker, All-filter}
use Rattle.std.proofs.lemmas.List.Folds.{list_any_none}
use Rattle.std.proofs.lemmas.Nat.Bits.{bit_at_and, bit_at-zero}
use Rattle.sp_plan.specs.declared.event.Event.{Event}
use Rattle.sp_plan.specs.declared.plan.Element.{Element}
use Rattle.sp_plan.specs.declared.plan.Element.TheVariants.{One, Plus, Set, Never}
use Rattle.sp_plan.specs.declared.plan.Plan.{Plan}
use Rattle.sp_plan.specs.Masks.{has}
use Rattle.sp_plan.specs.Runs.{Pair, Run, again, binds, guarded, guards, is_plus, leading, name_holds, takes, unbound, wanted}
use Rattle.sp_scan.specs.inside.Ahead.{AreIn, IsNamed, Keeps}
use Rattle.sp_scan.specs.inside.Offer.{NoOtherHolds}
use Rattle.sp_scan.proofs.Searching.{range_push}

or_true : (t : Bool) → (t || true) ≡ true
or_true true = refl
or_true false = refl

-- a name more
pub own_bit : (old new name : ℕ) → has new name ≡ (has old name || true) → has new name ≡ true
own_bit old new name same = same ∙ or_true (has old name)

pub bit_more : (old new name : ℕ) → has new name ≡ (has old name || true) → ((other : ℕ) → (other ≡ name → ⊥) → has new other ≡ has old other) → Keeps old new
bit_more old new name same others other there = elim (cases_eq other name) as (λ _. has new other ≡ true) [
  | inl here ↦ ap (has new) here ∙ own_bit old new name same
  | inr apart ↦ others other apart ∙ there
]

pub kept_in : (old new : ℕ) (names : List ℕ) → Keeps old new → AreIn old names → AreIn new names
kept_in old new names keeps are = All-weaker (λ name. has old name ≡ true) (λ name. has new name ≡ true) keeps names are

-- the names of a range, one after another
pub range_more : (old new first name : ℕ) → first ≤ name → Keeps old new → has new name ≡ true → AreIn old (range_with_len first (name - first)) → AreIn new (range_with_len first (name + 1 - first))
range_more old new first name low keeps own are = subst (AreIn new) (sym (range_push first name low)) (All-push (λ n. has new n ≡ true) (range_with_len first (name - first)) name (kept_in old new (range_with_len first (name - first)) keeps are) own)

-- the names that stand negated in front: those behind one of them are still to come
abbrev pub Leads : ℕ → List Element → ℕ → Type 0
Leads mask elements i = (all : ℕ) → Keeps mask all → AreIn all (leading (drop i elements)) → AreIn all (leading elements)

pub leads_more : (old new : ℕ) (elements : List Element) (i name : ℕ) (d : Element) → i < length elements → get_or elements i d ≡ Never name → Keeps old new → has new name ≡ true → Leads old elements i → Leads new elements (i + 1)
leads_more old new elements i name d within is keeps own leads = λ all more rest.
    let at : leading (drop i elements) ≡ name ∷ leading (drop (i + 1) elements) = ap leading (drop_more elements i d within) ∙ ap (λ (element : Element). leading (element ∷ drop (i + 1) elements)) is in
    leads all (λ other there. more other (keeps other there)) (subst (AreIn all) (sym at) (All-cons (λ n. has all n ≡ true) name (leading (drop (i + 1) elements)) (more name own) rest))

-- a name that may be bound once more is below 32
plus_few : (elements : List Element) (name : ℕ) → All IsNamed elements → list_any (is_plus name) elements ≡ true → name < 32
plus_few [] name named any = absurd (cc any)
plus_few (One a ∷ elements) name named any = plus_few elements name (All-tail IsNamed (One a) elements named) any
plus_few (Set first count ∷ elements) name named any = plus_few elements name (All-tail IsNamed (Set first count) elements named) any
plus_few (Never a ∷ elements) name named any = plus_few elements name (All-tail IsNamed (Never a) elements named) any
plus_few (Plus b ∷ elements) name named any = elim (cases_eq b name) as (λ _. name < 32) [
  | inl here ↦ subst (λ (n : ℕ). n < 32) here (All-head IsNamed (Plus b) elements named)
  | inr apart ↦ plus_few elements name (All-tail IsNamed (Plus b) elements named) (sym (ap (λ t. t || list_any (is_plus name) elements) (let other : eqb b name ≡ false = grind (arith, nat_tests) in other)) ∙ any)
]

pub again_few : (elements : List Element) (o : Option Pair) (name : Option ℕ) → All IsNamed elements → option_to_list name ≡ again elements o → IfSome name (λ n. n < 32)
again_few elements o None named are = tt
again_few elements None (Some name) named are = absurd (cc are)
again_few elements (Some pair) (Some name) named are = one (list_any (is_plus pair.name) elements) refl are
  where
    one : (t : Bool) → t ≡ list_any (is_plus pair.name) elements → name ∷ [] ≡ cond t (pair.name ∷ []) [] → name < 32
    one true any same = let is : pair.name ≡ name = cc in subst (λ (n : ℕ). n < 32) is (plus_few elements pair.name named (sym any))
    one false any same = absurd (cc same)

-- the names that an element lacks are among its own
pub lacking_in : (mask : ℕ) (r : Run) (o : Option Element) → IfSome o (λ element. AreIn mask (binds element)) → AreIn mask (unbound r o)
lacking_in mask r None are = All-nil (λ name. has mask name ≡ true)
lacking_in mask r (Some element) are = All-filter _ (λ name. has mask name ≡ true) (binds element) are

-- where two masks have no name in common
apart : (mask other name : ℕ) → bit_and mask other ≡ 0 → has other name ≡ true → has mask name ≡ false
apart mask other name none there =
    let both : min (bit_at mask name) (bit_at other name) ≡ 0 = sym (bit_at_and mask other name) ∙ ap (λ m. bit_at m name) none ∙ bit_at-zero name in
    grind (arith, nat_tests)

find_none : {X : Type 0} (p : X → Bool) (xs : List X) → All (λ x. p x ≡ false) xs → find p xs ≡ None
find_none p [] all = refl
find_none p (x ∷ xs) all = ap (λ t. cond t (Some x) (find p xs)) (All-head (λ x. p x ≡ false) x xs all) ∙ find_none p xs (All-tail (λ x. p x ≡ false) x xs all)

module _ (q : Plan) (e : Event) (may names : ℕ) (r : Run) (others : NoOtherHolds q e may) (none : bit_and may names ≡ 0) where
  none_hold : (ns : List ℕ) → AreIn names ns → All (λ name. name_holds q r e name ≡ false) ns
  none_hold ns are = All-weaker (λ name. has names name ≡ true) (λ name. name_holds q r e name ≡ false) (λ name there. others name (apart may names name none there) r) ns are

  pub takes_none : AreIn names (wanted q r) → takes q r e ≡ None
  takes_none are = find_none (name_holds q r e) (wanted q r) (none_hold (wanted q r) are)

  pub guarded_by_none : AreIn names (guards q r) → guarded q r e ≡ false
  guarded_by_none are = list_any_none (name_holds q r e) (guards q r) (none_hold (guards q r) are)
