-- Why a load is refused.
use Rattle.std.specs.Prelude.{◌≡◌, ℕ, List}
use Rattle.sp_io.specs.Outside.{ToldFiles, Rose}
use Rattle.sp_load.specs.declared.refusal.Refusal.{Refusal}
use Rattle.sp_load.specs.declared.refusal.Refusal.TheVariants.{Memory, Read, Limited, Query}
use Rattle.sp_load.specs.Places.{Place, file, IsLonger}

-- the load of what stands there is refused by its length alone; want of memory and faults say nothing of the bytes
abbrev pub RefusesLoad : ToldFiles → ℕ → Place → Refusal → Type 0
RefusesLoad held limit place Memory = Unit {0}
RefusesLoad held limit place Read = Unit {0}
RefusesLoad held limit place (Limited told) = (told ≡ limit) × IsLonger held limit place
RefusesLoad held limit place (Query code at) = ⊥

-- The file of the query could not be loaded: its own count of faults rose.
pub record IsUnread (place : Place) (before after : List ℕ → ℕ) : Type 0 where
  pub name : List ℕ
  pub is_file : place ≡ file name
  pub rose : Rose (before name) (after name)
