-- What the window-by-window engine reads of a window is a reading by numbers.
use Rattle.std.proofs.Common.{◌≡◌, ℕ, suc, ◌-◌, ◌<◌, Bool, false, not, List, Option, sym, ap, ◌∙◌, arith}
use Rattle.std.specs.Prelude.{filter, slice_get}
use Rattle.sp_base.specs.Numbers.{is_among}
use Rattle.sp_plan.specs.declared.event.Event.{Event}
use Rattle.sp_plan.specs.declared.plan.Plan.{Plan}
use Rattle.sp_plan.specs.Windows.{Numbered, Window, windows, IsWindowed}
use Rattle.sp_plan.specs.WindowNumbers.{Good, count, first, size, numbered_window}
use Rattle.sp_plan.specs.Runs.{State, state, matched_runs}
use Rattle.sp_plan.specs.Reading.{reading}
use Rattle.sp_plan.specs.Sequential.{seq, visible, after_window}
use Rattle.sp_plan.proofs.Readings.{reading_is_state}
use Rattle.sp_window.specs.Laws.{IsNumber, WindowsAreRead}
use Rattle.sp_window.proofs.Numbers.{number_test, windows_hold}

module _ (q : Plan) (limits : IsWindowed q) where
  -- the reading of all events of a window
  state_is : (events : List Event) (consumed : List ℕ) (w : ℕ) (ended : Bool) → IsNumber q events w
      → reading q events consumed (first q events w) (size q events w) ≡ state q (visible events consumed (numbered_window q events ended w))
  state_is events consumed w ended number =
      let hold = windows_hold q limits in
      let there = hold.there events w number ended in
      reading_is_state.state_is q events consumed (first q events w) (size q events w) (hold.low events w number)
      ∙ ap (λ (l : List Numbered). state q (filter (λ x. not (is_among consumed x.0)) l)) (sym (hold.members events w ended there.0 number there.1))
      ∙ ap (λ (o : Option Window). state q (visible events consumed o)) (sym there.1)

  -- so one window more by its reading
  progress : (events : List Event) (n : ℕ) → Good q events → n < count q events
      → (let before = seq q events n in seq q events (suc n) ≡ after_window q (suc n) before (matched_runs (reading q events before.consumed (first q events (suc n)) (size q events (suc n)))))
  progress events n good low =
      let before = seq q events n in
      let number : IsNumber q events (suc n) = record { good = good; low = omega arith; high = omega arith } in
      let place : suc n - 1 ≡ n = omega arith in
      let window : slice_get (windows q events false) n ≡ numbered_window q events false (suc n) =
      sym (number_test q events false (suc n) (omega arith) ∙ ap (slice_get (windows q events false)) place) in
      ap (λ (s : State). after_window q (suc n) before (matched_runs s))
      (ap (λ (o : Option Window). state q (visible events before.consumed o)) window ∙ sym (state_is events before.consumed (suc n) false number))

-- the law of what is read
pub windows_are_read : (q : Plan) → IsWindowed q → WindowsAreRead q
windows_are_read q limits = record { state_is = state_is q limits; progress = progress q limits }
