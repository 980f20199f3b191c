-- Digits and decimals, by where the points stand.
use Rattle.std.proofs.Common.{◌≡◌, ◌≢◌, ℕ, List, [], ◌∷◌, ap}
use Rattle.std.specs.List.{All}
use Rattle.sp_rows.specs.Numbers.{units_of, unsigned}
use Rattle.sp_rows.proofs.Cuts.{one_part}

-- without a point there are no decimals
pub no_point : (scale : ℕ) (digits : List ℕ) → All (λ b. b ≢ 46) digits → unsigned scale digits ≡ units_of scale (digits ∷ [])
no_point scale digits all = ap (units_of scale) (one_part 46 digits all)
