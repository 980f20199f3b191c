-- What the proofs of a run are: for each closed window what it was read without, what its own matches used, and these matches.
use Rattle.std.specs.Prelude.{ℕ, ◌+◌, ◌-◌, Bool, false, List, length, map, drop, filter, Option, Some, None}
use Rattle.std.specs.List.{flat_map, range_with_len}
use Rattle.sp_base.specs.Numbers.{is_among}
use Rattle.sp_plan.specs.declared.event.Event.{Event}
use Rattle.sp_plan.specs.declared.plan.Plan.{Plan}
use Rattle.sp_plan.specs.declared.found.Match.{Match}
use Rattle.sp_plan.specs.Windows.{Window, closed}
use Rattle.sp_plan.specs.WindowNumbers.{numbered_window, first_of}
use Rattle.sp_plan.specs.Sequential.{seq}
use Rattle.sp_listing.specs.Listing.{Entry}

-- the number of a window's last event, or 0 where there is no window
abbrev pub last_of : Option Window → ℕ
last_of None = 0
last_of (Some w) = w.last

-- the numbers from the first to the last that are among these
abbrev pub those_within : ℕ → ℕ → List ℕ → List ℕ
those_within first last numbers = filter (is_among numbers) (range_with_len first (last + 1 - first))

-- the numbers that matches use
abbrev pub used_by : List Match → List ℕ
used_by matches = flat_map (λ one. one.used) matches

-- the entry of a window with these events that adds these matches, where those numbers were consumed before it
abbrev pub entry_of : ℕ → ℕ → ℕ → List ℕ → List Match → Entry
entry_of number first last consumed matches = record {
  window = number;
  first = first;
  last = last;
  skipped = those_within first last consumed;
  used = those_within first last (used_by matches);
  matches = matches;
}

-- the matches of the window of a number: those that it adds to the ones before it
abbrev pub own_matches : Plan → List Event → ℕ → List Match
own_matches q events number = drop (length (seq q events (number - 1)).matches) (seq q events number).matches

-- the entry of the window of a number
abbrev pub proof_of : Plan → List Event → ℕ → Entry
proof_of q events number =
    let window = numbered_window q events false number in
    entry_of number (first_of window) (last_of window) (seq q events (number - 1)).consumed (own_matches q events number)

-- the entries of the first n windows
abbrev pub first_proofs : Plan → List Event → ℕ → List Entry
first_proofs q events n = map (proof_of q events) (range_with_len 1 n)

-- the entries of all windows that are closed
abbrev pub proofs : Plan → List Event → Bool → List Entry
proofs q events ended = first_proofs q events (closed q events ended)

-- the matches of entries in a row
abbrev pub matches_of : List Entry → List Match
matches_of entries = flat_map (λ entry. entry.matches) entries

-- the numbers that entries used
abbrev pub used_of : List Entry → List ℕ
used_of entries = flat_map (λ entry. entry.used) entries
