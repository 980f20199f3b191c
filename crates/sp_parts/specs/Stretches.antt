-- Windows by their places, and how far those of one part go.
use Rattle.std.specs.Prelude.{◌≡◌, ◌<◌, ◌≤◌, ℕ, ◌-◌, List, ◌∷◌, length, take, drop}
use Rattle.sp_plan.specs.declared.event.Event.{Event}
use Rattle.sp_plan.specs.Windows.{Window, windows}
use Rattle.sp_window.specs.Standing.{Kept}
use Rattle.sp_parts.specs.declared.stretch.Span.{Span}
use Rattle.sp_parts.specs.Parts.{grouped}

-- the window that is kept so
abbrev pub as_window : Span → Window
as_window span = record { first = span.first; last = span.last; closed = span.closed }

-- the windows that are kept for these events
abbrev pub windows_of : Kept → List Event → List Window
windows_of kept events = windows kept.plan events kept.ended

-- The windows from one place up to another are those of one part, the first of the windows from there on.
pub record IsStretch (ws : List Window) (begin end : ℕ) : Type 0 where
  pub some : begin < end
  pub within : end ≤ length ws
  pub group : grouped (drop begin ws) ≡ take (end - begin) (drop begin ws) ∷ grouped (drop end ws)
