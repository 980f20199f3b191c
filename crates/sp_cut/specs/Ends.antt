-- Where the first row of bytes ends.
use Rattle.std.specs.Prelude.{ℕ, ◌≡◌, ◌≢◌, ◌<◌, Bool, false, List, length, take, Option, Some, None, slice_index}
use Rattle.sp_cut.specs.declared.ends.Found.{Found}
use Rattle.sp_cut.specs.declared.ends.Found.TheVariants.{End, Rest}
use Rattle.sp_cut.specs.Scan.{scan, EndsAt}

-- the place is that of the first line feed that ends a row, or there is none and the state is that behind all
abbrev pub IsFound : Bool → List ℕ → Found → Type 0
IsFound quoted bytes (End size) = EndsAt quoted bytes size
IsFound quoted bytes (Rest state) = scan quoted bytes ≡ Some state

-- in front of the byte no row ends and a quote is open or not as at the start; the byte is a quote, or a line feed that ends a row
pub record MarkAt (quoted : Bool) (bytes : List ℕ) (size : ℕ) : Type 0 where
  pub within : size < length bytes
  pub before : scan quoted (take size bytes) ≡ Some quoted
  pub feed : slice_index bytes size ≢ 34 → (slice_index bytes size ≡ 10) × (quoted ≡ false)

-- the place is that of such a byte, or no row ends in the bytes and a quote is open or not at their end as at the start
abbrev pub IsMark : Bool → List ℕ → Option ℕ → Type 0
IsMark quoted bytes None = scan quoted bytes ≡ Some quoted
IsMark quoted bytes (Some size) = MarkAt quoted bytes size
