-- The definitions tried on worked rows, by computation.
use Rattle.std.proofs.Common.{◌≡◌, ℕ, List, [], ◌∷◌, map, refl}
use Rattle.std.specs.Prelude.{codes}
use Rattle.std.specs.Fmt.{digits}
use Rattle.std.specs.List.{range_with_len}
use Rattle.sp_gen.specs.Generated.{drawn, upper, generated}

-- the numbers of eight events drawn from 7
abbrev eight : List ℕ
eight = map (drawn 7) (range_with_len 1 8)

eight_drawn : eight ≡ 1025555898 ∷ 3923423697 ∷ 2630631676 ∷ 3981355051 ∷ 211918734 ∷ 3675562389 ∷ 1550419440 ∷ 228089999 ∷ []
eight_drawn = refl

eight_upper : map upper eight ≡ 15648 ∷ 59866 ∷ 40140 ∷ 60750 ∷ 3233 ∷ 56084 ∷ 23657 ∷ 3480 ∷ []
eight_upper = refl

eight_rows : generated 8 7 ≡ codes "at,sym,price,size\n1,AA,133.6000,100\n2,DD,125.2200,100\n3,CC,132.7600,100\n4,DD,134.0600,100\n5,AA,132.3300,100\n6,DD,128.3600,100\n7,BB,131.7700,100\n8,AA,134.8000,100\n"
unfolding digits
eight_rows = refl

-- of no event there is the header alone
no_event : generated 0 7 ≡ codes "at,sym,price,size\n"
no_event = refl

-- the greatest seed draws as the seed that is one below 0 would
greatest_seed : drawn 4294967295 1 ≡ 1012239698
greatest_seed = refl
