-- The limit of a listing.
use Rattle.std.specs.Prelude.{ℕ}

-- the most bytes of a listing's file
abbrev pub listing_limit : ℕ
listing_limit = 16777216
