-- Pieces on their way home: each is put by a seat into the queue and collected from it by the poster.
use Rattle.std.specs.Prelude.{◌≡◌, ◌⊎◌, ℕ, ◌<◌, ◌≤◌, ◌==◌, true, false, List, [], ◌++◌, map}
use Rattle.std.specs.List.{AllByRecursion, Contains, IsDistinct}
use mathlib.Core.Option.{Option, some, none}
use lib.ListN.{get_elem?}
use Rattle.sp_hub.specs.declared.knows.Knows.{Knows}
use Rattle.sp_hub.specs.Collecting.{tickets_by}

-- what the poster's pass knows: how many seats were made, what it collected, each with its seat, and the seats that came back, each with all that it put
abbrev pub poster : ℕ → List (ℕ × ℕ) → List (ℕ × List ℕ) → Knows
poster made got joined = record { posts = true; made = made; got = got; joined = joined; sits = false; number = 0; put = [] }

-- what a seat's pass knows: its number and what it put
abbrev pub seat : ℕ → List ℕ → Knows
seat number put = record { posts = false; made = 0; got = []; joined = []; sits = true; number = number; put = put }

-- what a pass knows that was taken back
abbrev pub spent : Knows
spent = record { posts = false; made = 0; got = []; joined = []; sits = false; number = 0; put = [] }

-- pieces in the queue, each as its seat and its ticket
abbrev pub slips : {P : Type 0} → (P → ℕ) → List (ℕ × P) → List (ℕ × ℕ)
slips ticket_of items = map (λ item. (item.0, ticket_of item.1)) items

-- the numbers of the seats that came back
abbrev pub numbers_back : List (ℕ × List ℕ) → List ℕ
numbers_back joined = map (λ back. back.0) joined

-- a seat that came back has no pass any more, and all that it put is known
abbrev pub IsBack : (ℕ → Option ℕ) → (ℕ → List ℕ) → ℕ → ℕ × List ℕ → Type 0
IsBack place sent count back = (place back.0 ≡ none) × (back.1 ≡ sent back.0) × (back.0 < count)

-- a seat's pass is the one of its number, and knows what it put
abbrev pub FitsSeat : (ℕ → Option ℕ) → (ℕ → List ℕ) → ℕ → ℕ → Knows → Type 0
FitsSeat place sent count pass v = v.sits ≡ true → (place v.number ≡ some pass) × (v.put ≡ sent v.number) × (v.number < count)

-- the one poster knows what it collected, how many seats were made, that numbers from there on have no pass and put nothing, and the seats that came back
abbrev pub FitsPoster : ℕ → (ℕ → Option ℕ) → (ℕ → List ℕ) → List (ℕ × ℕ) → ℕ → ℕ → Knows → Type 0
FitsPoster reader place sent got count pass v =
    v.posts ≡ true
    → (pass ≡ reader) × (v.got ≡ got) × (v.made ≡ count)
    × ((k : ℕ) → v.made ≤ k → (place k ≡ none) × (sent k ≡ []))
    × AllByRecursion (IsBack place sent count) v.joined
    × IsDistinct (λ a b. a == b) (numbers_back v.joined)

-- it is the seat of this number, or the poster to which that one came back
abbrev pub Bears : Knows → ℕ → Type 0
Bears v number = ((v.sits ≡ true) × (v.number ≡ number)) ⊎ ((v.posts ≡ true) × Contains (numbers_back v.joined) number)

-- some pass bears this number
abbrev pub IsBorne : List Knows → ℕ → Type 0
IsBorne views number = (pass : ℕ) × (v : Knows) × (get_elem? views pass ≡ some v) × Bears v number

-- The rule: what each seat put is what was collected of it and then what the queue holds of it, in order; and each number below the count of
-- seats made is that of one seat's pass or of one seat that came back, and no other number has put anything.
pub record Delivers {P : Type 0} (ticket_of : P → ℕ) (items : List (ℕ × P)) (views : List Knows) : Type 0 where
  -- the poster's pass, the pass of each number that has one, what each number put, what was collected, and how many seats were made
  pub reader : ℕ
  pub place : ℕ → Option ℕ
  pub sent : ℕ → List ℕ
  pub got : List (ℕ × ℕ)
  pub count : ℕ
  pub delivered : (k : ℕ) → tickets_by k (got ++ slips ticket_of items) ≡ sent k
  pub fits : (pass : ℕ) (v : Knows) → get_elem? views pass ≡ some v → FitsSeat place sent count pass v × FitsPoster reader place sent got count pass v
  pub borne : (k : ℕ) → k < count → IsBorne views k

-- What the poster learns: of each seat that came back, what was collected is the beginning of what it put, and the rest is in the queue; their
-- numbers are apart, and below the count of seats made, as are those of all seats of which something was collected.
pub record Told {P : Type 0} (ticket_of : P → ℕ) (v : Knows) (items : List (ℕ × P)) : Type 0 where
  pub begins : AllByRecursion (λ back. tickets_by back.0 v.got ++ tickets_by back.0 (slips ticket_of items) ≡ back.1) v.joined
  pub below : AllByRecursion (λ back. back.0 < v.made) v.joined
  pub apart : IsDistinct (λ a b. a == b) (numbers_back v.joined)
  pub known : AllByRecursion (λ pair. pair.0 < v.made) v.got
