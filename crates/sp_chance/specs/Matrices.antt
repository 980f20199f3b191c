-- The numbers of a matrix over the states 0 to 32, which are the events still wanted, in 65,536ths.
use Rattle.std.specs.Prelude.{◌≡◌, ℕ, ◌+◌, ◌-◌, ◌*◌, ◌/◌, ◌%◌, ◌<◌, zero, suc, List, map, ◌==◌, ◌&&◌, if◌then◌else◌, slice_index}
use Rattle.std.specs.List.{count_by, sum, range_with_len}
use Rattle.sp_base.specs.Limits.{whole_share}

-- the sum of the numbers of the first states, each given by f
unfoldable pub total : ℕ → (ℕ → ℕ) → ℕ
total n f = sum (map f (range_with_len 0 n))

-- a matrix: 33 rows of 33 numbers, one row behind the other
unfoldable pub matrix : (ℕ → ℕ → ℕ) → List ℕ
matrix f = map (λ n. f (n / 33) (n % 33)) (range_with_len 0 1089)

-- the number of row i at column j
abbrev pub at : List ℕ → ℕ → ℕ → ℕ
at m i j = slice_index m (i * 33 + j)

-- each row's sum is 65,536
abbrev pub AreWhole : List ℕ → Type 0
AreWhole m = (i : ℕ) → i < 33 → total 33 (at m i) ≡ whole_share

-- row i with nothing on the diagonal
abbrev pub others : (ℕ → ℕ → ℕ) → ℕ → ℕ → ℕ
others f i j = if j == i then 0 else f i j

-- off the diagonal the number given, on it 65,536 less the row's others
abbrev pub settled_at : (ℕ → ℕ → ℕ) → ℕ → ℕ → ℕ
settled_at f i j = if j == i then whole_share - total 33 (others f i) else f i j

unfoldable pub settled : (ℕ → ℕ → ℕ) → List ℕ
settled f = matrix (settled_at f)

-- how many of the pairs lead from i to j, and how many lead from i
abbrev pub count : ℕ → ℕ → List (ℕ × ℕ) → ℕ
count i j pairs = count_by (λ p. (p.0 == i) && (p.1 == j)) pairs

abbrev pub leaving : ℕ → List (ℕ × ℕ) → ℕ
leaving i pairs = count_by (λ p. p.0 == i) pairs

-- off the diagonal: the part of the t pairs from i that leads to j, rounded down; with no pair from i, a
-- half of it goes one state down
abbrev pub moved : List (ℕ × ℕ) → ℕ → ℕ → ℕ
moved pairs i j =
    let t = leaving i pairs in
    if t == 0 then if j + 1 == i then 32768 else 0 else count i j pairs * whole_share / t

-- one step: what the pairs tell
unfoldable pub transitions : List (ℕ × ℕ) → List ℕ
transitions pairs = settled (moved pairs)

-- off the diagonal: the sum of the products of row i and column j, rounded down
abbrev pub joined : List ℕ → List ℕ → ℕ → ℕ → ℕ
joined a b i j = total 33 (λ k. at a i k * at b k j) / whole_share

-- one step behind the other
unfoldable pub product : List ℕ → List ℕ → List ℕ
product a b = settled (joined a b)

abbrev pub squared : List ℕ → List ℕ
squared m = product m m

-- sixteen steps: one step, squared four times
unfoldable pub first : List (ℕ × ℕ) → List ℕ
first pairs = squared (squared (squared (squared (transitions pairs))))

-- that many steps, and n times as many more
unfoldable pub power : List ℕ → ℕ → List ℕ
power one zero = one
power one (suc n) = product (power one n) one

-- Every row of every matrix is whole: of one step, of matrices one behind the other, of sixteen steps, and of
-- each power.
pub record RowsAreWhole : Type 0 where
  pub steps : (pairs : List (ℕ × ℕ)) → AreWhole (transitions pairs)
  pub products : (a b : List ℕ) → AreWhole a → AreWhole b → AreWhole (product a b)
  pub sixteen : (pairs : List (ℕ × ℕ)) → AreWhole (first pairs)
  pub powers : (pairs : List (ℕ × ℕ)) (n : ℕ) → AreWhole (power (first pairs) n)
