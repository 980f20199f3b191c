-- Where windows stop, and what closing them does.
use Rattle.std.specs.Prelude.{ℕ, ◌+◌, ◌-◌, Bool, List, [], ◌∷◌, ◌++◌, Some, nat_le, map, take, drop, if◌then◌else◌}
use Rattle.sp_window.specs.declared.record.Limit.{Limit}
use Rattle.sp_window.specs.declared.record.Limit.TheVariants.{AtNumber, AtTime}
use Rattle.sp_window.specs.declared.record.Record.{Record}

-- whether no event can join a window after so many events, the last of them of this time
abbrev pub is_reached : Limit → ℕ → ℕ → Bool
is_reached (AtNumber number) fed time = nat_le number (fed + 1)
is_reached (AtTime until) fed time = nat_le until time

-- the last event before the limit, where the event of this number is the first to reach it
abbrev pub last_before : Limit → ℕ → ℕ
last_before (AtNumber number) fed = number - 1
last_before (AtTime until) fed = fed - 1

-- a window that is closed at an event
abbrev pub ends_at : ℕ → Record → Record
ends_at last r = record r { end = Some last }

-- the windows whose limit is reached are closed, up to the first one whose limit is not
abbrev pub settled_front : ℕ → ℕ → List Record → List Record
settled_front fed time [] = []
settled_front fed time (r ∷ rs) = if is_reached r.limit fed time then ends_at (last_before r.limit fed) r ∷ settled_front fed time rs else (r ∷ rs)

-- the same behind the closed ones
abbrev pub settled : ℕ → ℕ → ℕ → List Record → List Record
settled closed fed time rs = take closed rs ++ settled_front fed time (drop closed rs)

-- all windows behind the closed ones are closed at an event
abbrev pub closed_from : ℕ → ℕ → List Record → List Record
closed_from closed last rs = take closed rs ++ map (ends_at last) (drop closed rs)
