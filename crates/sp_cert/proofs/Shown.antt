-- What is shown of a closed window.
use Rattle.std.proofs.Common.{◌≡◌, ℕ, ◌≤◌, Bool, true, List, Option, Some, None, ap, ◌∙◌, subst, arith}
use Rattle.std.specs.Prelude.{if◌then◌else◌}
use Rattle.std.specs.Option.{option_map}
use Rattle.sp_plan.specs.declared.event.Event.{Event}
use Rattle.sp_plan.specs.declared.plan.Plan.{Plan}
use Rattle.sp_plan.specs.Windows as spec
use Rattle.sp_plan.specs.Windows.{IsWindowed, closed}
use Rattle.sp_plan.specs.WindowNumbers.{Good, numbered_window}
use Rattle.sp_window.specs.declared.windows.Window.{Window}
use Rattle.sp_window.specs.Standing.{shown}
use Rattle.sp_window.specs.Laws.{IsNumber}
use Rattle.sp_window.proofs.Numbers.{windows_hold, closed_come_first}
use Rattle.sp_cert.specs.Spans.{AreWindowsOf, IsSpan}
use Rattle.sp_window.specs.Standing.{Kept}

-- its first event and its last
pub record Ends (q : Plan) (events : List Event) (number : ℕ) (o : Option Window) : Type 0 where
  pub from : ℕ
  pub until : ℕ
  pub is : o ≡ Some (record { first = from; end = Some until })
  pub span : IsSpan q events number from until

-- each closed window has them
pub ends : (q : Plan) (events : List Event) (w : Kept) (number : ℕ) (o : Option Window) → AreWindowsOf q events w → 1 ≤ number → number ≤ closed q events w.ended
    → o ≡ option_map shown (numbered_window w.plan events w.ended number) → Ends q events number o
ends q events w number o windows low within got =
    let limits = windows.compiled.windowed in
    let good : Good q events = subst (λ p. Good p events) windows.plan_is windows.stands.good in
    let hold = windows_hold q limits in
    let front = closed_come_first q limits in
    let all = front.within events w.ended good in
    let is_number : IsNumber q events number = record { good = good; low = low; high = omega arith } in
    let there = hold.there events number is_number w.ended in
    let x : spec.Window = there.0 in
    let shut : x.closed ≡ true = (front.front events w.ended number x is_number there.1).1 within in
    let first_low = hold.low events number is_number in
    let some = hold.some events number is_number in
    let inside = hold.within events number is_number in
    let first_is = there.2 in
    let last_is = there.3 in
    record {
      from = x.first;
      until = x.last;
      is = got ∙ ap (λ p. option_map shown (numbered_window p events w.ended number)) windows.plan_is ∙ ap (option_map shown) there.1
          ∙ ap (λ (b : Bool). Some (record { first = x.first; end = if b then Some x.last else None })) shut;
      span = record { first_is = first_is; last_is = last_is; low = omega arith; some = omega arith; within = omega arith };
    }
