-- The numbers of windows keep their limits.
use Rattle.std.proofs.Common.{◌≡◌, ℕ, ◌+◌, ◌-◌, ◌/◌, ◌%◌, ◌<◌, ◌≤◌, min, Bool, true, false, Some, None, refl, subst, arith}
use Rattle.std.specs.Prelude.{Option, nat_le, is_some, if◌then◌else◌}
use Rattle.std.proofs.lemmas.Int.{ints}
use Rattle.std.proofs.lemmas.Nat.{div_below, le-div}
use Rattle.std.proofs.lemmas.Grind.{div_ceil_times}
use Rattle.std.proofs.lemmas.Bool.Decides.{nat_tests}
use Rattle.std.proofs.lemmas.Bool.{and_parts}
use Rattle.sp_base.specs.Limits.{number_limit, length_limit, step_limit}
use Rattle.sp_lex.specs.declared.token.Word.{Word}
use Rattle.sp_lex.specs.declared.token.Word.TheVariants as w
use Rattle.sp_plan.specs.Windows.{windows_per_event, IsLength, IsOpening}
use Rattle.sp_query.specs.declared.query.Ident.{Ident}
use Rattle.sp_query.specs.declared.query.Query.{Query}
use Rattle.sp_compile.specs.declared.fault.CompileFault.{CompileFault}
use Rattle.sp_compile.specs.declared.fault.CompileFault.TheVariants as f
use Rattle.sp_compile.specs.Checks.{is_within, length_is_fine, length_fault, step_is_fine}
use Rattle.sp_compile.specs.Stands.{plan_length, plan_step}

-- the quotient rounded up, in two ways
pub rounded_up : (size step : ℕ) → 0 < step → size / step + min 1 (size % step) ≡ windows_per_event size step
rounded_up size step some =
    let times = div_ceil_times size step some in
    let least : size / step + min 1 (size % step) ≤ windows_per_event size step = le-div (size / step + min 1 (size % step)) (size + step - 1) step some (omega (arith, times.1)) in
    let most : windows_per_event size step < size / step + min 1 (size % step) + 1 = div_below (size + step - 1) step (size / step + min 1 (size % step) + 1) some (omega (arith, times.0)) in
    omega arith

-- what is 1 up to a limit
pub within_limits : (number limit : ℕ) → is_within number limit ≡ true → (0 < number) × (number ≤ limit)
within_limits number limit is = (grind (arith, nat_tests), grind (arith, nat_tests))

-- a check that finds nothing
pub true_where : (fine : Bool) (fault : CompileFault) → (if fine then None else Some fault) ≡ None → fine ≡ true
true_where true fault none = refl
true_where false fault none = absurd (cc none)

-- a length that has no fault
pub length_keeps : (time : Option Ident) (number : ℕ) (unit : Word) → length_is_fine time number unit ≡ true → IsLength (plan_length number unit)
length_keeps time number w.Time fine =
    let limits = within_limits number number_limit ((and_parts (is_some time) (is_within number number_limit) fine).1) in
    (omega (arith, ints, limits.0), omega (arith, ints, limits.1))
length_keeps time number _ fine = within_limits number length_limit fine

-- the length of a query that has no fault there
pub fine_length : (query : Query) → length_fault query ≡ None → length_is_fine query.time query.length.0 query.length.1 ≡ true
fine_length query none = true_where (length_is_fine query.time query.length.0 query.length.1) (f.BadWindow query.length.2) none

-- at most 64 windows
few : (size step : ℕ) → nat_le (windows_per_event size step) 64 ≡ true → windows_per_event size step ≤ 64
few size step is = grind (arith, nat_tests)

-- a step that has none, with a length
pub step_keeps : (size : ℕ) (of : Word) (step : ℕ) (unit : Word) → step_is_fine size of step unit ≡ true → IsOpening (plan_length size of) (plan_step step unit)
step_keeps size w.Time step w.Time fine =
    let both = and_parts (is_within step number_limit) (nat_le (windows_per_event size step) 64) fine in
    let limits = within_limits step number_limit both.0 in
    (omega (arith, ints, limits.0), omega (arith, ints, limits.1), few size step both.1)
step_keeps size _ step w.Time fine = absurd (cc fine)
step_keeps size w.Time step _ fine = within_limits step step_limit fine
step_keeps size _ step _ fine =
    let both = and_parts (is_within step step_limit) (nat_le (windows_per_event size step) 64) fine in
    let limits = within_limits step step_limit both.0 in
    (limits.0, limits.1, few size step both.1)

-- how great such a step is, of time and of events
timed : (size : ℕ) (of : Word) (step : ℕ) → step_is_fine size of step w.Time ≡ true → step ≤ number_limit
timed size w.Time step fine = (within_limits step number_limit ((and_parts (is_within step number_limit) (nat_le (windows_per_event size step) 64) fine).0)).1
timed size _ step fine = absurd (cc fine)

pub step_of_time : (size : ℕ) (of : Word) (step : ℕ) (unit : Word) → step_is_fine size of step unit ≡ true → unit ≡ w.Time → step ≤ number_limit
step_of_time size of step unit fine is = timed size of step (subst (λ u. step_is_fine size of step u ≡ true) is fine)

pub step_of_events : (size : ℕ) (of : Word) (step : ℕ) (unit : Word) → step_is_fine size of step unit ≡ true → (unit ≡ w.Time → ⊥) → is_within step step_limit ≡ true
step_of_events size of step w.Time fine out = absurd (out refl)
step_of_events size w.Time step _ fine out = fine
step_of_events size _ step _ fine out = (and_parts (is_within step step_limit) (nat_le (windows_per_event size step) 64) fine).0
