-- The names whose predicates may hold of an event, as bits of a number.
use Rattle.std.proofs.Common.{◌≡◌, ℕ, ◌+◌, ◌-◌, ◌<◌, ◌≤◌, ◌^◌, Bool, true, false, ◌||◌, eqb, length, get_or, sym, ap, ◌∙◌, inl, inr, arith}
use Rattle.std.proofs.lemmas.Bool.{cases_eq}
use Rattle.std.proofs.lemmas.Nat.Bits.{bit_at_ones}
use Rattle.std.proofs.lemmas.Option.{slice_get-get_or, slice_get_cases}
use Rattle.sp_plan.specs.declared.event.Event.{Event}
use Rattle.sp_plan.specs.declared.plan.Name.{Name}
use Rattle.sp_plan.specs.declared.plan.Plan.{Plan}
use Rattle.sp_plan.specs.Masks.{has}
use Rattle.sp_plan.specs.Runs.{Run, fits_name, name_holds}
use Rattle.sp_plan.specs.Values.{BoundEvents, holds}
use Rattle.sp_scan.specs.inside.Offer.{NoOtherHolds}

-- the same of the names below a place
abbrev pub NoOtherBelow : Plan → Event → ℕ → ℕ → Type 0
NoOtherBelow q e mask place = (name : ℕ) → name < place → has mask name ≡ false → (r : Run) → name_holds q r e name ≡ false

right_fails : (a b : Bool) → (a || b) ≡ false → b ≡ false
right_fails true b fails = absurd (cc fails)
right_fails false b fails = fails

-- one name more is asked
pub below_more : (q : Plan) (e : Event) (old new place : ℕ) (is : Bool) (d : Name) → place < length q.names → NoOtherBelow q e old place
    → has new place ≡ (has old place || is) → ((other : ℕ) → (other ≡ place → ⊥) → has new other ≡ has old other)
    → (is ≡ false → (b : BoundEvents) → holds (get_or q.names place d).pred e b ≡ false) → NoOtherBelow q e new (place + 1)
below_more q e old new place is d within below same others sure name low unset r = elim (cases_eq name place) as (λ _. name_holds q r e name ≡ false) [
  | inl here ↦
      let fails : is ≡ false = right_fails (has old place) is (sym same ∙ ap (has new) (sym here) ∙ unset) in
      ap (name_holds q r e) here ∙ ap (λ o. fits_name o r e) (slice_get-get_or q.names place d within) ∙ sure fails _
  | inr apart ↦ below name (omega (arith, low, apart)) (sym (others name apart) ∙ unset) r
]

-- all are asked
pub below_all : (q : Plan) (e : Event) (mask place : ℕ) → length q.names ≤ place → NoOtherBelow q e mask place → NoOtherHolds q e mask
below_all q e mask place all below name unset r = elim (slice_get_cases q.names name).1 as (λ _. name_holds q r e name ≡ false) [
  | inl there ↦ below name (let within = there.1 in omega (arith, all, within)) unset r
  | inr past ↦ ap (λ o. fits_name o r e) past.1
]

-- none is asked
pub all_may : (q : Plan) (e : Event) → length q.names ≤ 32 → NoOtherHolds q e (2 ^ 64 - 1)
all_may q e few = below_all q e (2 ^ 64 - 1) 64 (omega (arith, few)) (λ name low unset r. absurd (cc (sym unset ∙ ap (λ n. eqb n 1) (bit_at_ones 64 name low))))
