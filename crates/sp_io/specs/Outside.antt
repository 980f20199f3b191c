-- What calls of a source, of a sink and of files do to bytes and to counts of faults.
use Rattle.std.specs.Prelude.{◌≡◌, ◌⊎◌, ℕ, ◌+◌, ◌^◌, ◌<◌, ◌≤◌, Bool, List, [], ◌++◌, length, find, bytes_eq, Option, Some, None, IsSomeAnd, Result, Ok, Err}
use Rattle.std.specs.Option.{option_map}
use Rattle.sp_io.specs.declared.files.Loaded.{Loaded}
use Rattle.sp_io.specs.declared.files.Loaded.TheVariants.{Bytes, TooLong}
use Rattle.sp_io.specs.declared.files.LoadFault.{LoadFault}
use Rattle.sp_io.specs.declared.files.LoadFault.TheVariants.{Failed, Memory}

-- what is left at a source, or what a sink holds, where it is told
abbrev pub Told : Type 0
Told = Option (List ℕ)

-- a source as its callers see it: what is left, how often a call failed, and whether a call has found nothing left
pub record SourceState : Type 0 where
  pub left : Told
  pub faults : ℕ
  pub ended : Bool

-- a sink as its callers see it: what it holds, and how often a call failed
pub record SinkState : Type 0 where
  pub held : Told
  pub faults : ℕ

-- a source gave these bytes: where its bytes are told, they are the first of what was left
abbrev pub Gave : Told → List ℕ → Told → Type 0
Gave (Some old) bytes (Some new) = old ≡ bytes ++ new
Gave None bytes None = Unit {0}
Gave (Some old) bytes None = ⊥
Gave None bytes (Some new) = ⊥

-- a sink grew by these bytes
abbrev pub Grew : Told → List ℕ → Told → Type 0
Grew (Some old) bytes (Some new) = new ≡ old ++ bytes
Grew None bytes None = Unit {0}
Grew (Some old) bytes None = ⊥
Grew None bytes (Some new) = ⊥

-- a list begins with another
abbrev pub IsPrefix : List ℕ → List ℕ → Type 0
IsPrefix front whole = (rest : List ℕ) × (whole ≡ front ++ rest)

-- a sink grew by a prefix of these bytes
abbrev pub GrewWithin : Told → List ℕ → Told → Type 0
GrewWithin old bytes new = (front : List ℕ) × IsPrefix front bytes × Grew old front new

-- nothing is left, where what is left is told
abbrev pub IsUsedUp : Told → Type 0
IsUsedUp (Some left) = left ≡ []
IsUsedUp None = Unit {0}

-- a count rose; one that stands at the last value of its type counts as risen
abbrev pub Rose : ℕ → ℕ → Type 0
Rose old new = (old < new) ⊎ (2 ^ 64 ≤ new + 1)

-- what files hold, where it is told: each one's name and its bytes
abbrev pub ToldFiles : Type 0
ToldFiles = Option (List (List ℕ × List ℕ))

-- the bytes of the first file of this name
abbrev pub first_file : List (List ℕ × List ℕ) → List ℕ → Option (List ℕ)
first_file files name = option_map (λ file. file.1) (find (λ file. bytes_eq file.0 name) files)

-- where files are told, the first file of this name holds just these bytes
abbrev pub HoldsFile : ToldFiles → List ℕ → List ℕ → Type 0
HoldsFile (Some files) name bytes = first_file files name ≡ Some bytes
HoldsFile None name bytes = Unit {0}

-- where files are told, the first file of this name has more bytes than the limit
abbrev pub HoldsLonger : ToldFiles → List ℕ → ℕ → Type 0
HoldsLonger (Some files) name limit = IsSomeAnd (first_file files name) (λ bytes. limit < length bytes)
HoldsLonger None name limit = Unit {0}

-- this holds of the bytes, where a load gave some
abbrev pub IfBytes : Result Loaded LoadFault → (List ℕ → Type 0) → Type 0
IfBytes (Ok (Bytes bytes)) fact = fact bytes.items
IfBytes (Ok TooLong) fact = Unit {0}
IfBytes (Err fault) fact = Unit {0}

-- this holds, where a load found a file that is too long
abbrev pub OnTooLong : Result Loaded LoadFault → Type 0 → Type 0
OnTooLong (Ok TooLong) fact = fact
OnTooLong (Ok (Bytes bytes)) fact = Unit {0}
OnTooLong (Err fault) fact = Unit {0}

-- this holds, where a load failed and it wasn't for want of memory
abbrev pub OnFault : Result Loaded LoadFault → Type 0 → Type 0
OnFault (Err Failed) fact = fact
OnFault (Err Memory) fact = Unit {0}
OnFault (Ok loaded) fact = Unit {0}

-- this holds, where a load succeeded or there was no memory for it
abbrev pub OnNoFault : Result Loaded LoadFault → Type 0 → Type 0
OnNoFault (Err Failed) fact = Unit {0}
OnNoFault (Err Memory) fact = fact
OnNoFault (Ok loaded) fact = fact
