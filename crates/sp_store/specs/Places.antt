-- How a store keeps its entries: places with an id and a key each, the newest first. No public clause cites this.
use Rattle.std.specs.Prelude.{◌≡◌, ◌≢◌, ℕ, ◌<◌, ◌≤◌, List, [], ◌∷◌, length, slice_index_or, Option, Some, None, IsSome}
use Rattle.sp_base.specs.Limits.{live_limit}
use Rattle.sp_store.specs.declared.place.Place.{Place}

-- the ids fall, and are below this one
abbrev pub Falls : ℕ → List Place → Type 0
Falls top [] = Unit {0}
Falls top (p ∷ ps) = (p.id < top) × Falls p.id ps

-- the ids fall
abbrev pub AreFalling : List Place → Type 0
AreFalling ps = (top : ℕ) × Falls top ps

-- no place has this id
abbrev pub Lacks : List Place → ℕ → Type 0
Lacks [] id = Unit {0}
Lacks (p ∷ ps) id = (p.id ≢ id) × Lacks ps id

-- the first place of this id is the one at the index
abbrev pub HasId : List Place → ℕ → ℕ → Type 0
HasId places id index = (index < length places) × ((d : Place) → (slice_index_or places index d).id ≡ id)

-- no place has this key
abbrev pub IsFree : ℕ → List Place → Type 0
IsFree key [] = Unit {0}
IsFree key (p ∷ ps) = (p.key ≢ key) × IsFree key ps

module _ {V : Type 0} where
  abbrev pub paired : ℕ → Option V → List (ℕ × V) → List (ℕ × V)
  paired id None es = es
  paired id (Some value) es = (id, value) ∷ es

  -- the ids with the values at their keys
  abbrev pub listed : (ℕ → Option V) → List Place → List (ℕ × V)
  listed at [] = []
  listed at (p ∷ ps) = paired p.id (at p.key) (listed at ps)

  -- each key has a value, and no two places have the same
  abbrev pub AreKeyed : (ℕ → Option V) → List Place → Type 0
  AreKeyed at [] = Unit {0}
  AreKeyed at (p ∷ ps) = IsSome (at p.key) × IsFree p.key ps × AreKeyed at ps

  pub record IsSound (at : ℕ → Option V) (next bound : ℕ) (places : List Place) : Type 0 where
    pub falls : Falls next places
    pub keyed : AreKeyed at places
    pub most : length places ≤ bound
    pub few : bound ≤ live_limit
