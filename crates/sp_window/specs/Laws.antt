-- Laws of windows: what one event more, and the end of input, do to them.
use Rattle.std.specs.Prelude.{◌≡◌, ◌↔◌, ℕ, suc, ◌+◌, ◌-◌, ◌*◌, ◌<◌, ◌≤◌, Bool, true, false, List, [], ◌∷◌, ◌++◌, length, Some, take, drop}
use Rattle.sp_plan.specs.declared.event.Event.{Event}
use Rattle.sp_plan.specs.declared.plan.Plan.{Plan}
use Rattle.sp_plan.specs.Windows.{Window, numbered, events_of, closed}
use Rattle.sp_plan.specs.Runs.{state, matched_runs}
use Rattle.sp_plan.specs.Reading.{reading}
use Rattle.sp_plan.specs.Sequential.{seq, visible, after_window}
use Rattle.sp_plan.specs.WindowNumbers.{Good, count, first, size, numbered_window}

-- no events are good, and good events are so without the last one
pub record GoodEvents (q : Plan) : Type 0 where
  pub none : Good q []
  pub less : (events : List Event) (e : Event) → Good q (events ++ e ∷ []) → Good q events

-- a window's number is one from 1 to the count
pub record IsNumber (q : Plan) (events : List Event) (w : ℕ) : Type 0 where
  pub good : Good q events
  pub low : 1 ≤ w
  pub high : w ≤ count q events

-- a window holds consecutive events that were fed, up to the last one while it is open, and later windows begin no earlier; the
-- end of input changes none of this
pub record Holds (q : Plan) : Type 0 where
  pub there : (events : List Event) (w : ℕ) → IsNumber q events w → (ended : Bool) → (x : Window) × (numbered_window q events ended w ≡ Some x) × (x.first ≡ first q events w) × (x.last + 1 ≡ first q events w + size q events w)
  pub low : (events : List Event) (w : ℕ) → IsNumber q events w → 1 ≤ first q events w
  pub some : (events : List Event) (w : ℕ) → IsNumber q events w → 1 ≤ size q events w
  pub within : (events : List Event) (w : ℕ) → IsNumber q events w → first q events w + size q events w ≤ length events + 1
  pub members : (events : List Event) (w : ℕ) (ended : Bool) (x : Window) → IsNumber q events w → numbered_window q events ended w ≡ Some x
      → events_of events x ≡ take (size q events w) (drop (first q events w - 1) (numbered events))
  pub in_order : (events : List Event) (v w : ℕ) → 1 ≤ v → v ≤ w → IsNumber q events w → first q events v ≤ first q events w
  pub open_reaches : (events : List Event) (w : ℕ) (ended : Bool) (x : Window) → IsNumber q events w → numbered_window q events ended w ≡ Some x
      → x.closed ≡ false → first q events w + size q events w ≡ length events + 1

-- at most 64 windows open with an event
abbrev pub AreFew : Plan → Type 0
AreFew q = (events : List Event) → Good q events → count q events ≤ 64 * length events

-- one event more keeps the windows and where they begin, and takes no event from them
pub record KeptByFeeding (q : Plan) : Type 0 where
  pub count_fed : (events : List Event) (e : Event) → Good q (events ++ e ∷ []) → count q events ≤ count q (events ++ e ∷ [])
  pub first_fed : (events : List Event) (e : Event) (w : ℕ) → Good q (events ++ e ∷ []) → 1 ≤ w → w ≤ count q events → first q (events ++ e ∷ []) w ≡ first q events w
  pub size_fed : (events : List Event) (e : Event) (w : ℕ) → Good q (events ++ e ∷ []) → 1 ≤ w → w ≤ count q events → size q events w ≤ size q (events ++ e ∷ []) w

-- the closed windows are the first ones, all of them once input has ended; they stay closed, and keep their events
pub record ClosedFirst (q : Plan) : Type 0 where
  pub front : (events : List Event) (ended : Bool) (w : ℕ) (x : Window) → IsNumber q events w → numbered_window q events ended w ≡ Some x → (x.closed ≡ true) ↔ (w ≤ closed q events ended)
  pub within : (events : List Event) (ended : Bool) → Good q events → closed q events ended ≤ count q events
  pub over : (events : List Event) → Good q events → closed q events true ≡ count q events
  pub closed_end : (events : List Event) → Good q events → closed q events false ≤ closed q events true
  pub closed_fed : (events : List Event) (e : Event) → Good q (events ++ e ∷ []) → closed q events false ≤ closed q (events ++ e ∷ []) false
  pub closed_size : (events : List Event) (e : Event) (w : ℕ) → Good q (events ++ e ∷ []) → 1 ≤ w → w ≤ closed q events false → size q (events ++ e ∷ []) w ≡ size q events w

-- what finished windows gave stays, whatever events come: their matches, and what they consumed
pub record FinishedStay (q : Plan) : Type 0 where
  pub closed_more : (events more : List Event) → Good q (events ++ more) → closed q events false ≤ closed q (events ++ more) false
  pub progress : (events more : List Event) (n : ℕ) → Good q (events ++ more) → n ≤ closed q events false → seq q (events ++ more) n ≡ seq q events n

-- what the window-by-window engine reads of a window is the reading of all its events, by their numbers, without those consumed; so
-- each window adds what such a reading matched
pub record WindowsAreRead (q : Plan) : Type 0 where
  pub state_is : (events : List Event) (consumed : List ℕ) (w : ℕ) (ended : Bool) → IsNumber q events w
      → reading q events consumed (first q events w) (size q events w) ≡ state q (visible events consumed (numbered_window q events ended w))
  pub progress : (events : List Event) (n : ℕ) → Good q events → n < count q events
      → (let before = seq q events n in seq q events (suc n) ≡ after_window q (suc n) before (matched_runs (reading q events before.consumed (first q events (suc n)) (size q events (suc n)))))
