-- At which entry a listing is wrong.
use Rattle.std.specs.Prelude.{◌≡◌, ◌≤◌, ℕ, ◌-◌, List, length, take, Some, slice_get}
use Rattle.sp_listing.specs.Listing.{Entry}

-- The first n entries are the right ones, and the next one, where there is one, isn't.
pub record AgreeTo (listing right : List Entry) (n : ℕ) : Type 0 where
  pub within : n ≤ length listing
  pub low : n ≤ length right
  pub front : take n listing ≡ take n right
  pub stops : (entry : Entry) → slice_get listing n ≡ Some entry → ¬ (slice_get right n ≡ Some entry)

-- The entry of that number, counted from 1, is the first that differs: it is another one, it is missing, or it is one too many.
pub record DiffersFirst (listing right : List Entry) (number : ℕ) : Type 0 where
  pub low : 1 ≤ number
  pub before : take (number - 1) listing ≡ take (number - 1) right
  pub differs : ¬ (slice_get listing (number - 1) ≡ slice_get right (number - 1))
