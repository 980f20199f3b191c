-- How the cells of a row are kept while it is read.
use Rattle.std.specs.Prelude.{◌≡◌, ℕ, ◌<◌, ◌≤◌, List, [], ◌∷◌, length, drop}
use Rattle.sp_rows.specs.declared.quoted.Record.TheInside.{Inside}
use Rattle.sp_rows.specs.Held.{Held}
use Rattle.sp_rows.specs.Plain.{pieces}

-- the places rise, from the first to the last
abbrev pub Rise : ℕ → List ℕ → ℕ → Type 0
Rise start [] last = start ≡ last
Rise start (next ∷ nexts) last = (start < next) × Rise next nexts last

-- the cells between the places, and what stands behind the last
abbrev pub held_in : Inside → Held
held_in a = record { cells = pieces a.bytes.items 0 a.nexts.items; cell = drop a.start a.bytes.items }

-- the places rise up to where the cell at hand begins
pub record AreHeld (a : Inside) : Type 0 where
  pub rise : Rise 0 a.nexts.items a.start
  pub within : a.start ≤ length a.bytes.items
