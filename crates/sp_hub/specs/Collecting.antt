-- What was put and what was collected, seat by seat.
use Rattle.std.specs.Prelude.{◌≡◌, ℕ, ◌<◌, ◌==◌, if◌then◌else◌, List, [], ◌∷◌, length, map, Some, slice_get}
use Rattle.std.specs.List.{All, IsDistinct, flat_map}
use mathlib.Core.List.{IsPrefix}
use Rattle.sp_hub.specs.State.{Sitting}

-- the ticket of a pair of a seat and a ticket, where it is of this seat
abbrev pub ticket_by : ℕ → ℕ × ℕ → List ℕ
ticket_by seat pair = if pair.0 == seat then pair.1 ∷ [] else []

-- of seats and tickets, the tickets of one seat, in order
abbrev pub tickets_by : ℕ → List (ℕ × ℕ) → List ℕ
tickets_by seat pairs = flat_map (ticket_by seat) pairs

-- what was collected of each of these seats is the beginning of what it put, in its order
abbrev pub AreCollectedInOrder : List (ℕ × ℕ) → List Sitting → Type 0
AreCollectedInOrder got seats = All (λ seat. IsPrefix (tickets_by seat.number got) seat.put) seats

-- each ticket was collected of a seat below this count
abbrev pub AreOfSeats : ℕ → List (ℕ × ℕ) → Type 0
AreOfSeats count got = All (λ pair. pair.0 < count) got

-- the numbers tell how many tickets each of these seats put, by the seat's number
abbrev pub TellPuts : List ℕ → List Sitting → Type 0
TellPuts puts seats = All (λ seat. slice_get puts seat.number ≡ Some (length seat.put)) seats

-- the seats' numbers are apart, and below this count
pub record AreNumbered (count : ℕ) (seats : List Sitting) : Type 0 where
  pub apart : IsDistinct (λ a b. a == b) (map (λ seat. seat.number) seats)
  pub below : All (λ seat. seat.number < count) seats
