-- The shares of runs.
use Rattle.std.specs.Prelude.{◌≡◌, ℕ, ◌+◌, ◌*◌, ◌^◌, ◌<◌, ◌≤◌, Bool, List, [], ◌∷◌, length, slice_index_or, ◌==◌, ◌&&◌, if◌then◌else◌}
use Rattle.sp_base.specs.Limits.{whole_share}
use Rattle.sp_chance.specs.declared.chances.Chance.{Chance}

-- whether it is that run of that version
abbrev pub is_that : ℕ → ℕ → ℕ → ℕ → Bool
is_that v r version run = (v == version) && (r == run)

-- the share of a run, 0 where none is set
abbrev pub share_of : List Chance → ℕ → ℕ → ℕ
share_of [] v r = 0
share_of (c ∷ cs) v r = if is_that v r c.version c.run then c.share else share_of cs v r

-- the run has this share now, and any other has what it had
abbrev pub SetsOnly : List Chance → List Chance → ℕ → ℕ → ℕ → Type 0
SetsOnly old new version run share =
    (v r : ℕ) → share_of new v r ≡ (if is_that v r version run then share else share_of old v r)

-- no run has more than the whole
pub record AreParts (cs : List Chance) : Type 0 where
  pub most : (version run : ℕ) → share_of cs version run ≤ whole_share

-- versions first, then runs
abbrev pub key : ℕ → ℕ → ℕ
key version run = version * 2 ^ 32 + run

abbrev pub no_chance : Chance
no_chance = record { version = 0; run = 0; share = 0 }

abbrev pub chance_at : List Chance → ℕ → Chance
chance_at cs i = slice_index_or cs i no_chance

abbrev pub key_at : List Chance → ℕ → ℕ
key_at cs i = key (chance_at cs i).version (chance_at cs i).run

-- by version and run they rise
pub record AreOrdered (cs : List Chance) : Type 0 where
  pub rising : (i j : ℕ) → i < j → j < length cs → key_at cs i < key_at cs j
  pub narrow : (i : ℕ) → i < length cs → (chance_at cs i).run < 2 ^ 32

-- those in front of the place come before the run, and no other
pub record IsPlace (cs : List Chance) (version run at : ℕ) : Type 0 where
  pub within : at ≤ length cs
  pub below : (i : ℕ) → i < at → key_at cs i < key version run
  pub above : (i : ℕ) → at ≤ i → i < length cs → key version run ≤ key_at cs i

-- the run's own stands there
pub record IsAt (cs : List Chance) (version run at : ℕ) : Type 0 where
  pub within : at < length cs
  pub version_is : (chance_at cs at).version ≡ version
  pub run_is : (chance_at cs at).run ≡ run
