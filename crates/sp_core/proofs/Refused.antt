-- What a step keeps that is not refused.
use Rattle.std.proofs.Common.{◌≡◌, ℕ, Bool, true, false, Option, Some, None, refl}
use Rattle.sp_group.specs.declared.refusal.Refusal.{Refusal}
use Rattle.sp_group.specs.Refusing.{refuse_if, refuse_for}

-- a test that refuses fails, and so do the tests behind it
pub passes_if : (b : Bool) (r : Refusal) (rest : Option Refusal) → refuse_if b r rest ≡ None → (b ≡ false) × (rest ≡ None)
passes_if true r rest is = absurd (cc)
passes_if false r rest is = (refl, is)

-- a number for which it is refused is not there, and the tests behind it fail
pub passes_for : (o : Option ℕ) (r : ℕ → Refusal) (rest : Option Refusal) → refuse_for o r rest ≡ None → (o ≡ None) × (rest ≡ None)
passes_for None r rest is = (refl, is)
passes_for (Some n) r rest is = absurd (cc)
