-- When the next predictor is due.
use Rattle.std.proofs.Common.{◌≡◌, ℕ, ◌+◌, ◌/◌, ◌<◌, ◌≤◌, Bool, true, false, length, min, ◌==◌, if◌then◌else◌, refl, ◌∙◌, arith}
use Rattle.std.proofs.Math.Nat.{div-mul-le_self, zero-div}
use Rattle.std.proofs.lemmas.Nat.{le-div}
use Rattle.std.proofs.lemmas.Bool.Decides.{nat_tests}
use Rattle.sp_split.specs.declared.relay.Relay.{Relay}
use Rattle.sp_split.specs.Relieving.{AreDue, AreWithin}

module _ {V : Type 0} {T : V → Type 0} where
  -- where no window is finished none is
  pub due_first : (r : Relay V T) → r.gone ≡ 0 → AreDue r 0
  due_first r none = none ∙ first (r.every == 0)
    where
      first : (b : Bool) → 0 ≡ (if b then 0 else min (0 / r.every) (r.gone + length r.rest.items))
      first true = refl
      first false = let zero = zero-div r.every in omega arith

  -- more windows are finished
  pub due_later : (r : Relay V T) (before now : ℕ) → before ≤ now → AreDue r before → AreWithin r now
  due_later r before now more due = later (r.every == 0) refl due
    where
      later : (b : Bool) → (r.every == 0) ≡ b → r.gone ≡ (if b then 0 else min (before / r.every) (r.gone + length r.rest.items)) → r.gone ≤ (if b then 0 else now / r.every)
      later true is due = omega arith
      later false is due =
          let some : 0 < r.every = grind (arith, nat_tests) in
          let low = div-mul-le_self before r.every in
          let rises : before / r.every ≤ now / r.every = le-div (before / r.every) now r.every some (omega arith) in
          omega arith
