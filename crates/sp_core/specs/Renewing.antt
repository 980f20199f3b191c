-- A version of the tree that begins anew.
use Rattle.std.specs.Prelude.{◌≡◌, ℕ, ◌+◌, false, List, [], ◌∷◌, None, Some}
use Rattle.sp_group.specs.Family.{entry_at, prune}
use Rattle.sp_tree.specs.Changes.{but}
use Rattle.sp_tree.specs.Grown.{Grown, Entry, kin, lifted}
use Rattle.sp_version.specs.declared.version.Version.{Version}

-- a version as new, for the same window and plan
pub record IsRestarted (old new : Version) : Type 0 where
  pub window : new.window ≡ old.window
  pub first : new.first ≡ old.first
  pub position : new.position ≡ 0
  pub skipped : new.skipped.list ≡ []
  pub plan : new.matcher.plan ≡ old.matcher.plan
  pub none : new.matcher.open_runs ≡ []
  pub count : new.matcher.started ≡ 0
  pub matches : new.matches.items ≡ []
  pub copies : new.copies.items ≡ []
  pub used : new.used.list ≡ []
  pub done : new.done ≡ false
  pub out : new.out ≡ None

-- an entry of the next id, with another value, under its parent and with its label
abbrev pub anew : ℕ → Entry Version → Version → Entry Version
anew next e value = record { version = record { id = next; parent = e.version.parent; label = e.version.label; groups = [] }; value = value }

-- the entries where the one of an id is anew, and all below it is gone
abbrev pub all_anew : ℕ → ℕ → Entry Version → Version → List (Entry Version) → List (Entry Version)
all_anew next id e value es = anew next e value ∷ prune kin (lifted (but id)) es

-- The version of an id begins anew: it has the next id, is as new, and nothing is below it.
pub record IsAnew (old : Grown Version) (id : ℕ) (new : Grown Version) : Type 0 where
  pub entry : Entry Version
  pub value : Version
  pub was : entry_at kin old.entries id ≡ Some entry
  pub restarted : IsRestarted entry.value value
  pub is : new ≡ record old { entries = all_anew old.next id entry value old.entries; next = old.next + 1 }
