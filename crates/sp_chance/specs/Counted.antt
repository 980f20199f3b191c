-- What the calls that build matrices do, over the numbers that stand in memory.
use Rattle.std.specs.Prelude.{◌≡◌, ℕ, ◌+◌, ◌*◌, ◌/◌, ◌%◌, ◌<◌, ◌≤◌, Bool, List, length, ◌==◌, ◌&&◌, ◌||◌, if◌then◌else◌, slice_index}
use Rattle.std.specs.List.{count_by}
use Rattle.sp_base.specs.Limits.{whole_share}
use Rattle.sp_chance.specs.Matrices.{total, at, power}

-- room for 33 rows of 33 numbers; in the first rows, so many, the sum is 65,536, and nothing stands where more
-- events would be wanted than before
pub record HasRows (rows : ℕ) (m : List ℕ) : Type 0 where
  pub size : length m ≡ 1089
  pub whole : (i : ℕ) → i < rows → total 33 (at m i) ≡ whole_share
  pub falls : (i j : ℕ) → i < rows → i < j → j < 33 → at m i j ≡ 0

-- the first rows, so many, are the same
abbrev pub SameRows : ℕ → List ℕ → List ℕ → Type 0
SameRows rows a b = (i j : ℕ) → i < rows → j < 33 → at a i j ≡ at b i j

-- a pair that is learned: from 1 to 32 wanted events to as many or fewer
pub record IsMove (p : ℕ × ℕ) : Type 0 where
  pub some : 1 ≤ p.0
  pub most : p.0 ≤ 32
  pub falls : p.1 ≤ p.0

-- the pair of a number: where it leads from, 64 times, and where it leads to
abbrev pub decoded : ℕ → ℕ × ℕ
decoded code = (code / 64, code % 64)

-- whether a pair counts in row i at column j: off the diagonal those from i to j, on it all those from i
abbrev pub is_counted : ℕ → ℕ → ℕ × ℕ → Bool
is_counted i j p = (p.0 == i) && (i == j || p.1 == j)

abbrev pub tally : List (ℕ × ℕ) → ℕ → ℕ → ℕ
tally pairs i j = count_by (is_counted i j) pairs

-- the counts hold what the pairs tell
abbrev pub AreCounted : List (ℕ × ℕ) → List ℕ → Type 0
AreCounted pairs counts = (i j : ℕ) → i < 33 → j < 33 → at counts i j ≡ tally pairs i j

-- the pairs were added to what was counted before
abbrev pub AreAdded : List (ℕ × ℕ) → List ℕ → List ℕ → Type 0
AreAdded pairs old new = (i j : ℕ) → i < 33 → j < 33 → at new i j ≡ at old i j + tally pairs i j

-- so many more can be counted, of 256
abbrev pub HaveRoom : ℕ → List ℕ → Type 0
HaveRoom more counts = (i j : ℕ) → i < 33 → j < 33 → at counts i j + more ≤ 256

-- the number off the diagonal, by what was counted
abbrev pub moved_by : List ℕ → ℕ → ℕ → ℕ
moved_by counts i j =
    let t = at counts i i in
    if t == 0 then if j + 1 == i then 32768 else 0 else at counts i j * whole_share / t

-- for the first states, so many, how likely each is to come to 0 in each of sixteen powers
abbrev pub HasColumns : ℕ → List ℕ → List ℕ → Type 0
HasColumns rows one columns =
    (n i : ℕ) → n < 16 → i < rows → slice_index columns (n * 33 + i) ≡ at (power one n) i 0
