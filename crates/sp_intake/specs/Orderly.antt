-- Events that come next, one list behind another.
use Rattle.std.proofs.Common.{◌≡◌, ◌⊎◌, inl, inr, ◌+◌, ℕ, zero, suc, ℤ, ◌≤ℤ◌, true, List, [], ◌∷◌, ◌++◌, length, Some, subst, arith}
use Rattle.std.specs.Prelude.{slice_get}
use Rattle.std.specs.List.{All}
use Rattle.std.proofs.lemmas.Int.{ints}
use Rattle.std.proofs.lemmas.Option.{slice_get_within}
use Rattle.std.proofs.lemmas.List.Elements.{All-append, All-push, All-nil, All-weaker}
use Rattle.sp_plan.specs.Events.{fits, NeverGoesBack}
use Rattle.sp_plan.specs.declared.event.Event.{Event}
use Rattle.sp_plan.specs.declared.plan.Plan.{Plan}
use Rattle.sp_intake.specs.Following.{ComeNext}

-- what stands in a list is one of its items
item_is : (P : Event → Type 0) (events : List Event) (i : ℕ) (x : Event) → All P events → slice_get events i ≡ Some x → P x
item_is P [] i x all is = absurd (cc is)
item_is P (e ∷ events) zero x all is = let same : e ≡ x = cc is in subst P same (all 0 e (omega arith))
item_is P (e ∷ events) (suc i) x all is = item_is P events i x (λ j d inside. all (suc j) d (omega (arith, inside))) is

-- one event
ordered_one : (e : Event) → NeverGoesBack (e ∷ [])
ordered_one e zero zero x y le xi yj =
    let one : e ≡ x = cc xi in
    let other : e ≡ y = cc yj in
    let same : x ≡ y = cc (one, other) in
    subst (λ (z : Event). x.time ≤ℤ z.time) same (omega (arith, ints))
ordered_one e zero (suc j) x y le xi yj = absurd (cc yj)
ordered_one e (suc i) j x y le xi yj = absurd (cc xi)

-- no event comes next, where the last time is none before
pub none_next : (q : Plan) (old new : ℤ) → old ≤ℤ new → ComeNext q old [] new
none_next q old new le = record {
  fit = All-nil (λ x. fits q x ≡ true);
  ordered = λ i j x y le xi yj. absurd (cc xi);
  after = All-nil (λ e. old ≤ℤ e.time);
  before = All-nil (λ e. e.time ≤ℤ new);
  onward = le;
}

pub same_next : (q : Plan) (old new : ℤ) → new ≡ old → ComeNext q old [] new
same_next q old new is = none_next q old new (omega (arith, ints, is))

pub one_next : (q : Plan) (old new : ℤ) (e : Event) → fits q e ≡ true → old ≤ℤ e.time → new ≡ e.time → ComeNext q old (e ∷ []) new
one_next q old new e fit after is = record {
  fit = All-push (λ x. fits q x ≡ true) [] e (All-nil (λ x. fits q x ≡ true)) fit;
  ordered = ordered_one e;
  after = All-push (λ x. old ≤ℤ x.time) [] e (All-nil (λ x. old ≤ℤ x.time)) after;
  before = All-push (λ x. x.time ≤ℤ new) [] e (All-nil (λ x. x.time ≤ℤ new)) (omega (arith, ints, is));
  onward = omega (arith, ints, after, is);
}

-- an item that stands behind the first so many
record Behind (ys : List Event) (n i : ℕ) (x : Event) : Type 0 where
  at : ℕ
  place : i ≡ n + at
  is : slice_get ys at ≡ Some x

-- what stands in two lists stands in one of them
in_either : (xs ys : List Event) (i : ℕ) (x : Event) → slice_get (xs ++ ys) i ≡ Some x → (slice_get xs i ≡ Some x) ⊎ Behind ys (length xs) i x
in_either [] ys i x is = inr (record { at = i; place = omega arith; is = is })
in_either (f ∷ xs) ys zero x is = inl is
in_either (f ∷ xs) ys (suc i) x is = elim (in_either xs ys i x is) [
  | inl there ↦ inl there
  | inr last ↦ inr (record { at = last.at; place = (let at : suc i ≡ suc (length xs) + last.at = omega (arith, last.place) in at); is = last.is })
]

module _ (xs ys : List Event) (mid : ℤ) where
  ordered_append : NeverGoesBack xs → NeverGoesBack ys → All (λ e. e.time ≤ℤ mid) xs → All (λ e. mid ≤ℤ e.time) ys → NeverGoesBack (xs ++ ys)
  ordered_append first second before after i j x y le xi yj = elim (in_either xs ys i x xi) [
    | inl one ↦ elim (in_either xs ys j y yj) [
      | inl other ↦ first i j x y le one other
      | inr other ↦
          let low = item_is (λ e. e.time ≤ℤ mid) xs i x before one in
          let high = item_is (λ e. mid ≤ℤ e.time) ys other.at y after other.is in
          omega (arith, ints, low, high)
    ]
    | inr one ↦ elim (in_either xs ys j y yj) [
      | inl other ↦ absurd (let less = slice_get_within xs j y other in omega (arith, one.place, less, le))
      | inr other ↦ second one.at other.at x y (omega (arith, one.place, other.place, le)) one.is other.is
    ]
  ]

pub next_more : (q : Plan) (old mid new : ℤ) (xs ys : List Event) → ComeNext q old xs mid → ComeNext q mid ys new → ComeNext q old (xs ++ ys) new
next_more q old mid new xs ys first second = record {
  fit = All-append (λ x. fits q x ≡ true) xs ys first.fit second.fit;
  ordered = ordered_append xs ys mid first.ordered second.ordered first.before second.after;
  after = All-append (λ e. old ≤ℤ e.time) xs ys first.after (All-weaker (λ e. mid ≤ℤ e.time) (λ e. old ≤ℤ e.time) (λ e le. omega (arith, ints, le, first.onward)) ys second.after);
  before = All-append (λ e. e.time ≤ℤ new) xs ys (All-weaker (λ e. e.time ≤ℤ mid) (λ e. e.time ≤ℤ new) (λ e le. omega (arith, ints, le, second.onward)) xs first.before) second.before;
  onward = omega (arith, ints, first.onward, second.onward);
}
