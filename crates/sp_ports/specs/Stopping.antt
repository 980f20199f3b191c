-- Why an intake gives no more.
use Rattle.std.specs.Prelude.{◌≡◌, ℕ, Bool, true, false, Option, Some}
use Rattle.sp_io.specs.Outside.{Rose}
use Rattle.sp_ports.specs.declared.stop.Stop.{Stop}
use Rattle.sp_ports.specs.declared.stop.Stop.TheVariants.{End, Failed, Open}

-- the input was read to its end
abbrev pub is_end : Stop → Bool
is_end End = true
is_end (Failed failure) = false
is_end Open = false

-- what an intake keeps, if anything, as the reason that it gives no more is this one, and not the end of its input
abbrev pub Halts : Stop → Option Stop → Type 0
Halts why kept = (kept ≡ Some why) × (is_end why ≡ false)

-- from one state to another an intake stopped before the end of its input, and stands stopped for this reason
abbrev pub StoppedFor : {A : Type 0} → (A → ℕ) → (A → Option Stop) → A → A → Stop → Type 0
StoppedFor stops cause from now why = Rose (stops from) (stops now) × Halts why (cause now)
