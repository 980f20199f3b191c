use Rattle.std.proofs.Common.{ℕ, subst}
use Rattle.sp_sched.specs.Reading.{IsNumberText}
use Rattle.sp_sched.proofs.Steps.{no_lease, no_version, no_count, lease_there}
use Rattle.sp_sched.proofs.line.lease_of.Goals as goal

pub returns-in_default : goal.returns-in_default
returns-in_default c = no_lease _ c.in_default.ensures

pub returns-in_default-number : goal.returns-in_default-number
returns-in_default-number c = no_version _ _ _ c.in-Some.ensures c.in_default-number.ensures

pub returns-in_default-number-2 : goal.returns-in_default-number-2
returns-in_default-number-2 c =
    no_count _ _ _ c.in-Some.ensures
    (subst (λ (most : ℕ). (n : ℕ) → IsNumberText most c.in-Some.count.now n → ⊥) c.from.ensures c.in_default-number-2.ensures)

pub returns : goal.returns
returns c =
    lease_there _ _ _ c.in-Some.ensures _ _ c.in-Some-number.ensures
    (subst (λ (most : ℕ). IsNumberText most c.in-Some.count.now c.in-Some-number-2.count) c.from.ensures c.in-Some-number-2.ensures)
