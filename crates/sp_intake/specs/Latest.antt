-- The greatest time of some events as one number.
use Rattle.std.specs.Prelude.{ℤ, pos, negsuc, Option, Some, None}

-- the time that it is, none where it is below 0
abbrev pub latest_of : ℤ → Option ℤ
latest_of (pos n) = Some (pos n)
latest_of (negsuc n) = None
