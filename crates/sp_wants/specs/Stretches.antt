-- Pairs of numbers, held as stretches of equal ones.
use Rattle.std.specs.Prelude.{ℕ, zero, suc, ◌<◌, List, [], ◌++◌, replicate}
use Rattle.std.specs.List.{All, flat_map}
use Rattle.sp_wants.specs.declared.stretch.Stretch.{Stretch}

-- the pairs of a stretch: one pair, so many times
abbrev pub pairs_of : Stretch → List (ℕ × ℕ)
pairs_of s = replicate s.times (s.before, s.after)

-- the pairs of several, one behind the other
abbrev pub all_pairs : List Stretch → List (ℕ × ℕ)
all_pairs stretches = flat_map pairs_of stretches

-- No stretch is empty.
abbrev pub NoneEmpty : List Stretch → Type 0
NoneEmpty stretches = All (λ s. 0 < s.times) stretches

-- the same list so many times, one after another
abbrev pub repeated : {A : Type 0} → ℕ → List A → List A
repeated zero l = []
repeated (suc n) l = repeated n l ++ l
