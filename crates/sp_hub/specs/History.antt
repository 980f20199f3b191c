-- The history of a hub.
use Rattle.std.specs.Prelude.{ℕ, ◌≤◌, ◌==◌, Bool, true, false, not, List, [], ◌∷◌, take}
use Rattle.std.specs.List.{count_by, flat_map}
use mathlib.Core.List.{IsPrefix}
use Rattle.sp_hub.specs.declared.entry.HubEntry.{HubEntry}
use Rattle.sp_hub.specs.declared.entry.HubEntry.TheVariants.{Post, Take, Close}

abbrev pub post_of : HubEntry → List ℕ
post_of (Post ticket) = ticket ∷ []
post_of _ = []

abbrev pub take_of : HubEntry → List ℕ
take_of (Take seat ticket) = ticket ∷ []
take_of _ = []

-- the tickets that were posted, in order
abbrev pub posted : List HubEntry → List ℕ
posted entries = flat_map post_of entries

-- the tickets that were taken, in order
abbrev pub taken : List HubEntry → List ℕ
taken entries = flat_map take_of entries

abbrev pub is_close : HubEntry → Bool
is_close Close = true
is_close _ = false

-- an entry that counts among the calls of the poster and the seats
abbrev pub is_call : HubEntry → Bool
is_call e = not (is_close e)

abbrev pub is_take_by : ℕ → HubEntry → Bool
is_take_by seat (Take by ticket) = by == seat
is_take_by seat _ = false

-- at every moment the tickets taken are the first of those posted; Close stands at most once
pub record IsLegal (entries : List HubEntry) : Type 0 where
  pub takes : (k : ℕ) → IsPrefix (taken (take k entries)) (posted (take k entries))
  pub closes : count_by is_close entries ≤ 1
