-- What a store is to its callers.
use Rattle.std.specs.Prelude.{ℕ, ◌+◌, ◌<◌, ◌≤◌, List, [], ◌∷◌, length, Option, Some, None, ◌==◌, if◌then◌else◌, refl}
use Rattle.std.specs.Coded.{Coded, code_by, coded×, coded_ℕ, coded_list}

-- the values with their ids, the newest first; the next id; how many may be live
pub record Stored (V : Type 0) : Type 0 where
  pub entries : List (ℕ × V)
  pub next : ℕ
  pub bound : ℕ

-- a store is kept as the tuple of its fields
abbrev pub stored_code : {V : Type 0} → Coded V → Coded (Stored V)
stored_code {V} code =
    code_by
    (List (ℕ × V) × (ℕ × ℕ))
    (coded× (coded_list (coded× coded_ℕ code)) (coded× coded_ℕ coded_ℕ))
    (λ s. (s.entries, (s.next, s.bound)))
    (λ p. record { entries = p.0; next = p.1.0; bound = p.1.1 })
    (λ _. refl)

-- a store of this bound before the first value
abbrev pub opened : {V : Type 0} → ℕ → Stored V
opened bound = record { entries = []; next = 1; bound = bound }

module _ {V : Type 0} where
  -- the value of an id
  abbrev pub found : List (ℕ × V) → ℕ → Option V
  found [] id = None
  found (e ∷ es) id = if e.0 == id then Some e.1 else found es id

  -- the entries but the one of that id
  abbrev pub left : List (ℕ × V) → ℕ → List (ℕ × V)
  left [] id = []
  left (e ∷ es) id = if e.0 == id then es else e ∷ left es id

  -- the entries with another value at that id
  abbrev pub written : List (ℕ × V) → ℕ → V → List (ℕ × V)
  written [] id value = []
  written (e ∷ es) id value = if e.0 == id then (id, value) ∷ es else e ∷ written es id value

  -- the store with one more value, under the next id
  abbrev pub put_in : Stored V → V → Stored V
  put_in s value = record s { entries = (s.next, value) ∷ s.entries; next = s.next + 1 }

  -- the store without an id
  abbrev pub without : Stored V → ℕ → Stored V
  without s id = record s { entries = left s.entries id }

  -- the store after a write to the value of an id
  abbrev pub with_value : Stored V → ℕ → V → Stored V
  with_value s id value = record s { entries = written s.entries id value }

  -- the store where the value of an id, if it is live, has the next id
  abbrev pub moved : Stored V → ℕ → Option V → Stored V
  moved s id None = s
  moved s id (Some value) = put_in (without s id) value

  abbrev pub renewed : Stored V → ℕ → Stored V
  renewed s id = moved s id (found s.entries id)

  -- the id that a renewal answers
  abbrev pub answered : ℕ → Option V → Option ℕ
  answered next None = None
  answered next (Some value) = Some next

  abbrev pub renewed_id : Stored V → ℕ → Option ℕ
  renewed_id s id = answered s.next (found s.entries id)

  -- the ids fall, and are below this one
  abbrev pub FallFrom : ℕ → List (ℕ × V) → Type 0
  FallFrom top [] = Unit {0}
  FallFrom top (e ∷ es) = (e.0 < top) × FallFrom e.0 es

  -- what every store keeps: its ids fall, all below the next one, and no more are live than may be
  pub record AreListed (s : Stored V) : Type 0 where
    pub fall : FallFrom s.next s.entries
    pub most : length s.entries ≤ s.bound
