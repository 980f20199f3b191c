-- What a window that is told says of the fed events: how many of them it has, and whether it is closed.
use Rattle.std.proofs.Common.{◌≡◌, ℕ, ◌+◌, ◌≤◌, Bool, true, false, cond, nat_le, List, length, Option, Some, None, refl, sym, ap, subst, ◌∙◌, arith}
use Rattle.std.specs.Option.{option_map}
use Rattle.std.proofs.lemmas.Bool.Decides.{nat_tests}
use Rattle.sp_base.specs.Limits.{event_limit}
use Rattle.sp_plan.specs.declared.event.Event.{Event}
use Rattle.sp_plan.specs.declared.plan.Plan.{Plan}
use Rattle.sp_plan.specs.Windows.{closed}
use Rattle.sp_plan.specs.WindowNumbers.{Good, count, first, numbered_window, size}
use Rattle.sp_window.specs.declared.windows.Window.{Window}
use Rattle.sp_window.specs.Laws as laws
use Rattle.sp_window.specs.Laws.{IsNumber, ClosedFirst}
use Rattle.sp_window.specs.Standing.{Stands, shown}
use Rattle.sp_core.specs.Holding.{Holding, IsCore}

-- the last event is told exactly where the window is closed; an open one has all events from its first one on
pub record Told (q : Plan) (events : List Event) (ended : Bool) (w : ℕ) (y : Window) : Type 0 where
  pub first_is : y.first ≡ first q events w
  pub some : (n : ℕ) → y.end ≡ Some n → (n + 1 ≡ first q events w + size q events w) × (nat_le w (closed q events ended) ≡ true)
  pub none : y.end ≡ None → (length events + 1 ≡ first q events w + size q events w) × (nat_le w (closed q events ended) ≡ false)

end_some : (b : Bool) (last n : ℕ) → cond b (Some last) None ≡ Some n → (b ≡ true) × (last ≡ n)
end_some true last n h = (refl, cc)
end_some false last n h = cc

end_none : (b : Bool) (last : ℕ) → cond b (Some last) None ≡ None → b ≡ false
end_none true last h = cc
end_none false last h = refl

is_above : (w n : ℕ) → ¬ (w ≤ n) → nat_le w n ≡ false
is_above w n h = grind (arith, nat_tests)

is_within : (w n : ℕ) → w ≤ n → nat_le w n ≡ true
is_within w n h = grind (arith, nat_tests)

-- a window that is shown is there
pub is_there : (q : Plan) (events : List Event) (ended : Bool) (w : ℕ) → laws.Holds q → IsNumber q events w
    → option_map shown (numbered_window q events ended w) ≡ None → ⊥
is_there q events ended w holds number none =
    let there = holds.there events w number ended in
    let some : option_map shown (numbered_window q events ended w) ≡ Some (shown there.0) = ap (option_map shown) there.1 in
    cc

pub told : (q : Plan) (events : List Event) (ended : Bool) (w : ℕ) (y : Window) → laws.Holds q → ClosedFirst q → IsNumber q events w
    → option_map shown (numbered_window q events ended w) ≡ Some y → Told q events ended w y
told q events ended w y holds closes number is =
    let there = holds.there events w number ended in
    let x = there.0 in
    let same : Some (shown x) ≡ Some y = sym (ap (option_map shown) there.1) ∙ is in
    let end : cond x.closed (Some x.last) None ≡ y.end = cc in
    let front = closes.front events ended w x number there.1 in
    record {
      first_is = let from : x.first ≡ y.first = cc in sym from ∙ there.2;
      some = λ n h.
          let e = end_some x.closed x.last n (end ∙ h) in
          (ap (λ l. l + 1) (sym e.1) ∙ there.3, is_within w (closed q events ended) (front.0 e.0));
      none = λ h.
          let open_ : x.closed ≡ false = end_none x.closed x.last (end ∙ h) in
          (sym (holds.open_reaches events w ended x number there.1 open_), is_above w (closed q events ended) (λ l. let shut : x.closed ≡ true = front.1 l in cc));
    }

-- the same of a core's windows
pub number_of : (h : Holding) → IsCore h → (w : ℕ) → (1 ≤ w) × (w ≤ count h.plan h.events) → IsNumber h.plan h.events w
number_of h k w there = record { good = subst (λ (q : Plan). Good q h.events) k.windows_plan k.windows.good; low = there.0; high = there.1 }

abbrev pub Tells : Holding → ℕ → Option Window → Type 0
Tells h w seen = (events : List Event) (ended : Bool) → Stands h.windows events ended → seen ≡ option_map shown (numbered_window h.windows.plan events ended w)

seen_is : (h : Holding) → IsCore h → (w : ℕ) (seen : Option Window) → Tells h w seen → seen ≡ option_map shown (numbered_window h.plan h.events h.ended w)
seen_is h k w seen tells = tells h.events h.ended k.windows ∙ ap (λ (q : Plan). option_map shown (numbered_window q h.events h.ended w)) k.windows_plan

pub core_there : (h : Holding) → IsCore h → laws.Holds h.plan → (w : ℕ) → (1 ≤ w) × (w ≤ count h.plan h.events) → (seen : Option Window) → Tells h w seen → seen ≡ None → ⊥
core_there h k holds w there seen tells none = is_there h.plan h.events h.ended w holds (number_of h k w there) (sym (seen_is h k w seen tells) ∙ none)

pub core_told : (h : Holding) → IsCore h → laws.Holds h.plan → ClosedFirst h.plan → (w : ℕ) → (1 ≤ w) × (w ≤ count h.plan h.events) → (seen : Option Window) → Tells h w seen
    → (y : Window) → seen ≡ Some y → Told h.plan h.events h.ended w y
core_told h k holds closes w there seen tells y is = told h.plan h.events h.ended w y holds closes (number_of h k w there) (sym (seen_is h k w seen tells) ∙ is)

-- the window's events were all fed, of which there are not too many
pub fed_within : (h : Holding) → IsCore h → laws.Holds h.plan → (w : ℕ) → (1 ≤ w) × (w ≤ count h.plan h.events)
    → (first h.plan h.events w + size h.plan h.events w ≤ length h.events + 1) × (length h.events ≤ event_limit)
fed_within h k holds w there = (holds.within h.events w (number_of h k w there), k.windows.few)
