-- Between two multiples of a step there is none.
use Rattle.std.proofs.Common.{◌≡◌, ◌≢◌, inl, inr, ℕ, ◌+◌, ◌-◌, ◌*◌, ◌/◌, ◌%◌, ◌<◌, ◌≤◌, false, [], refl, arith}
use Rattle.std.specs.Prelude.{◌==◌}
use Rattle.std.proofs.lemmas.Bool.{cases_lt}
use Rattle.std.proofs.lemmas.Bool.Decides.{nat_tests}
use Rattle.std.proofs.lemmas.Nat.{mul-le, div-add-mod'}
use Rattle.sp_plan.specs.declared.event.Event.{Event}
use Rattle.sp_plan.specs.declared.plan.Length.{Length}
use Rattle.sp_plan.specs.declared.plan.Opening.{Opening}
use Rattle.sp_plan.specs.declared.plan.Opening.TheVariants.{EveryEvents, EveryTime, When}
use Rattle.sp_window.specs.Openings.{opening_by}
use Rattle.sp_window.specs.Opens.{IsAhead}

-- a number that is less than a step below a multiple of it is none
pub not_multiple : (s n next : ℕ) → next % s ≡ 0 → n < next → next < n + s → (n % s == 0) ≡ false
not_multiple s n next multiple low high = elim (cases_lt (n / s) (next / s)) [
  | inl less ↦
      let a = div-add-mod' n s in
      let b = div-add-mod' next s in
      let product : (n / s + 1) * s ≤ next / s * s = mul-le (n / s + 1) s (next / s) s (omega arith) (omega arith) in
      let some : n % s ≢ 0 = λ none. absurd (omega arith) in
      grind (arith, nat_tests)
  | inr more ↦
      let a = div-add-mod' n s in
      let b = div-add-mod' next s in
      let product : next / s * s ≤ n / s * s = mul-le (next / s) s (n / s) s more (omega arith) in
      absurd (omega arith)
]

-- an event in front of the next opening opens nothing
pub none_opens : (o : Opening) (s : ℕ) (l : Length) (number next : ℕ) (e : Event) → o ≡ EveryEvents s → IsAhead o number next → 0 < number → number ≢ next + 1 → opening_by o l number next e ≡ []
none_opens (EveryEvents r) s l number next e is ahead some other =
    let low = ahead.1 in
    let high = ahead.2 in
    let test = not_multiple r (number - 1) next ahead.0 (omega arith) (omega arith) in
    rw test refl
none_opens (EveryTime r) s l number next e is ahead some other = cc
none_opens (When p) s l number next e is ahead some other = cc
