-- The events of a closed window stand side by side.
use Rattle.std.proofs.Common.{◌≡◌, ℕ, ◌+◌, ◌-◌, ◌<◌, ◌≤◌, Bool, true, false, ◌==◌, List, take, drop, Option, Some, None, refl, sym, ◌∙◌, ap, arith}
use Rattle.std.specs.Prelude.{slice_get, filter, if◌then◌else◌}
use Rattle.std.specs.Option.{option_map}
use Rattle.std.proofs.lemmas.Bool.Decides.{nat_tests}
use Rattle.sp_plan.specs.declared.event.Event.{Event}
use Rattle.sp_plan.specs.declared.plan.Plan.{Plan}
use Rattle.sp_plan.specs.Windows as spec
use Rattle.sp_plan.specs.Windows.{Numbered, numbered, windows, events_of, closed}
use Rattle.sp_plan.specs.WindowNumbers as n
use Rattle.sp_plan.specs.WindowNumbers.{Good, count, numbered_window}
use Rattle.sp_plan.specs.Sequential.{visible}
use Rattle.sp_window.specs.declared.windows.Window.{Window}
use Rattle.sp_window.specs.Standing.{shown}
use Rattle.sp_window.specs.Laws.{IsNumber, Holds, ClosedFirst}
use Rattle.sp_seq.specs.Spans.{IsSpan}
use Rattle.sp_seq.proofs.Gathering.{is_left}

module _ (q : Plan) (events : List Event) (ended : Bool) (number : ℕ) (holds : Holds q) (front : ClosedFirst q) (good : Good q events) (low : 0 < number) (within : number ≤ closed q events ended) where
  -- it is a window's number
  is_number : IsNumber q events number
  is_number = record { good = good; low = omega arith; high = let all = front.within events ended good in omega arith }

  abbrev pub first : ℕ
  first = n.first q events number

  abbrev pub size : ℕ
  size = n.size q events number

  -- the window, which is shown with its last event
  pub found : (x : spec.Window) → numbered_window q events ended number ≡ Some x → (x.first ≡ first) × (x.last + 1 ≡ first + size) × (x.closed ≡ true)
  found x is =
      let there = holds.there events number is_number ended in
      let same : there.0 ≡ x = cc (there.1, is) in
      (sym (ap (λ (w : spec.Window). w.first) same) ∙ there.2, ap (λ (w : spec.Window). w.last + 1) (sym same) ∙ there.3, (front.front events ended number x is_number is).1 within)

  -- what is shown of it
  pub record Shows (o : Option Window) : Type 0 where
    pub window : Window
    pub is : o ≡ Some window
    pub first_is : window.first ≡ first
    pub end : ℕ
    pub end_is : window.end ≡ Some end
    pub size_is : end + 1 ≡ first + size

  shown_so : (o : Option spec.Window) → numbered_window q events ended number ≡ o → Shows (option_map shown o)
  shown_so None is = let there = holds.there events number is_number ended in absurd (cc (there.1, is))
  shown_so (Some x) is =
      let facts = found x is in
      record { window = shown x; is = refl; first_is = facts.0; end = x.last; end_is = ap (λ (b : Bool). if b then Some x.last else None) facts.2; size_is = facts.1 }

  pub shows : Shows (option_map shown (numbered_window q events ended number))
  shows = shown_so (numbered_window q events ended number) refl

  -- it begins at 1 or later
  pub first_low : 1 ≤ first
  first_low = holds.low events number is_number

  -- what is visible of it stands between its places
  pub spans : (f end : ℕ) → f ≡ first → end + 1 ≡ first + size → IsSpan q events number (f - 1) end
  spans f end f_is end_is =
      let low' = holds.low events number is_number in
      let some = holds.some events number is_number in
      let inside = holds.within events number is_number in
      let there = holds.there events number is_number false in
      let here : slice_get (windows q events false) (number - 1) ≡ Some there.0 = at_number number low ∙ there.1 in
      let members = holds.members events number false there.0 is_number there.1 in
      let from : first - 1 ≡ f - 1 = ap (λ (k : ℕ). k - 1) (sym f_is) in
      let many : size ≡ end - (f - 1) = omega (arith, f_is, end_is, low') in
      record {
        ordered = omega (arith, f_is, end_is, low');
        within = omega (arith, f_is, end_is, inside);
        visible_is = λ consumed. ap (visible events consumed) here ∙ ap (filter (is_left consumed)) (members ∙ (λ i. take (many i) (drop (from i) (numbered events))));
      }
    where
      at_number : (k : ℕ) → 0 < k → slice_get (windows q events false) (k - 1) ≡ numbered_window q events false k
      at_number k above = by_test (k == 0) refl above
        where
          by_test : (b : Bool) → (k == 0) ≡ b → 0 < k → slice_get (windows q events false) (k - 1) ≡ (if b then None else slice_get (windows q events false) (k - 1))
          by_test true is above = absurd (grind (arith, nat_tests))
          by_test false is above = refl
