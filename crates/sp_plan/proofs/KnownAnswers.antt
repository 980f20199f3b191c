-- What is known of a predicate whatever events are bound is right.
use Rattle.std.proofs.Common.{◌≡◌, Bool, true, false, ◌&&◌, ◌||◌, not, Some, None, [], refl, sym, ◌∙◌, ap, ◌⊎◌, inl, inr, pos, ◌^◌}
use Rattle.std.specs.Prelude.{◌+ℤ◌, ◌-ℤ◌, ◌*ℤ◌, neg_ℤ, if◌then◌else◌}
use Rattle.std.proofs.lemmas.Bool.{and_cases, and_left, and_right}
use Rattle.sp_plan.specs.declared.event.Event.{Event}
use Rattle.sp_plan.specs.declared.plan.Expr.{Expr, Literal, Word, Column, Earlier, Raise', Minus', Add', Sub', Mul'}
use Rattle.sp_plan.specs.declared.plan.Pred.{Pred, Always, Test, And', Or', Not'}
use Rattle.sp_plan.specs.Values.{BoundEvents, value, compares, holds}
use Rattle.sp_plan.specs.Known.{reads_bound, agrees, may_be, KnownIsRight, WhatMayNotHoldDoesNot}

-- where one of two is not enough, neither is there
or_parts : (x y : Bool) → (x || y) ≡ false → (x ≡ false) × (y ≡ false)
or_parts true y h = absurd cc
or_parts false y h = (refl, h)

both_true : (x y : Bool) → x ≡ true → y ≡ true → (x && y) ≡ true
both_true true y h i = i
both_true false y h i = absurd cc

one_true : (x y : Bool) → (x ≡ true) ⊎ (y ≡ true) → (x || y) ≡ true
one_true true y h = refl
one_true false y (inl h) = absurd cc
one_true false y (inr h) = h

both_false : (x y : Bool) → x ≡ false → y ≡ false → (x || y) ≡ false
both_false true y h i = absurd cc
both_false false y h i = i

-- what reads no bound event comes to the same whatever events are bound
pub alone : (x : Expr) (e : Event) (b c : BoundEvents) → reads_bound x ≡ false → value x e b ≡ value x e c
alone (Literal n) e b c h = refl
alone (Word s) e b c h = refl
alone (Column n) e b c h = refl
alone (Earlier name n) e b c h = absurd cc
alone (Raise' by p inner) e b c h = ap (λ x. x *ℤ pos (10 ^ by)) (alone inner e b c h)
alone (Minus' p inner) e b c h = ap neg_ℤ (alone inner e b c h)
alone (Add' p left q right) e b c h =
    let parts = or_parts (reads_bound left) (reads_bound right) h in
    λ i. alone left e b c parts.0 i +ℤ alone right e b c parts.1 i
alone (Sub' p left q right) e b c h =
    let parts = or_parts (reads_bound left) (reads_bound right) h in
    λ i. alone left e b c parts.0 i -ℤ alone right e b c parts.1 i
alone (Mul' p left q right) e b c h =
    let parts = or_parts (reads_bound left) (reads_bound right) h in
    λ i. alone left e b c parts.0 i *ℤ alone right e b c parts.1 i

other_outcome : (answer outcome : Bool) → agrees answer outcome ≡ false → outcome ≡ not answer
other_outcome true outcome h = h
other_outcome false true h = refl
other_outcome false false h = absurd cc

twice : (x : Bool) → not (not x) ≡ x
twice true = refl
twice false = refl

-- what a predicate may not be it is not
pub is_other : (answer : Bool) (p : Pred) (e : Event) (b : BoundEvents) → may_be answer p e ≡ false → holds p e b ≡ not answer
is_other answer Always e b h = sym (ap not h)
is_other answer (Test by left right) e b h =
    let first = or_parts (reads_bound left || reads_bound right) (agrees answer (compares by (value left e []) (value right e []))) h in
    let second = or_parts (reads_bound left) (reads_bound right) first.0 in
    (λ i. compares by (alone left e b [] second.0 i) (alone right e b [] second.1 i)) ∙ other_outcome answer (compares by (value left e []) (value right e [])) first.1
is_other true (And' p left q right) e b h =
    elim (and_cases (may_be true left e) (may_be true right e) h) [
      | inl fails ↦ and_left (holds left e b) (holds right e b) (is_other true left e b fails)
      | inr fails ↦ and_right (holds left e b) (holds right e b) (is_other true right e b fails)
    ]
is_other false (And' p left q right) e b h =
    let parts = or_parts (may_be false left e) (may_be false right e) h in
    both_true (holds left e b) (holds right e b) (is_other false left e b parts.0) (is_other false right e b parts.1)
is_other true (Or' p left q right) e b h =
    let parts = or_parts (may_be true left e) (may_be true right e) h in
    both_false (holds left e b) (holds right e b) (is_other true left e b parts.0) (is_other true right e b parts.1)
is_other false (Or' p left q right) e b h =
    elim (and_cases (may_be false left e) (may_be false right e) h) [
      | inl fails ↦ one_true (holds left e b) (holds right e b) (inl (is_other false left e b fails))
      | inr fails ↦ one_true (holds left e b) (holds right e b) (inr (is_other false right e b fails))
    ]
is_other answer (Not' p inner) e b h = ap not (is_other (not answer) inner e b h) ∙ twice (not answer)

pub may_not : WhatMayNotHoldDoesNot
may_not p e b h = is_other true p e b h

known_from : (x y answer : Bool) (outcome : Bool) → (x ≡ false → outcome ≡ false) → (y ≡ false → outcome ≡ true) → (if x then (if y then None else Some true) else Some false) ≡ Some answer → outcome ≡ answer
known_from true true answer outcome h i is = absurd cc
known_from true false answer outcome h i is = let same : true ≡ answer = cc in i refl ∙ same
known_from false y answer outcome h i is = let same : false ≡ answer = cc in h refl ∙ same

pub right : KnownIsRight
right p e b answer is = known_from (may_be true p e) (may_be false p e) answer (holds p e b) (is_other true p e b) (is_other false p e b) is
