-- The numbers, worked: rows of matrices that were counted by hand or by another program.
use Rattle.std.proofs.Common.{◌≡◌, ℕ, List, [], ◌∷◌, refl, ap}
use Rattle.sp_chance.specs.Matrices.{total, matrix, settled, transitions, product, squared, at, first, power}
use Rattle.sp_chance.specs.Learned.{chance_of}

-- row 1 at column 0 of a matrix, and of the matrices that come of squaring it
falls : List ℕ → List ℕ
falls m =
    let two = squared m in
    let four = squared two in
    let eight = squared four in
    at m 1 0 ∷ at two 1 0 ∷ at four 1 0 ∷ at eight 1 0 ∷ at (squared eight) 1 0 ∷ []

-- with no pair half of each state but 0 goes one down
ends : List ℕ → List ℕ
ends m = at m 0 0 ∷ at m 0 1 ∷ at m 5 3 ∷ at m 5 4 ∷ at m 5 5 ∷ at m 5 6 ∷ at m 32 31 ∷ at m 32 32 ∷ []

rows_of_nothing : ends (transitions []) ≡ 65536 ∷ 0 ∷ 0 ∷ 32768 ∷ 32768 ∷ 0 ∷ 32768 ∷ 32768 ∷ []
unfolding ends total matrix settled transitions
rows_of_nothing = refl

of_nothing : falls (transitions []) ≡ 32768 ∷ 49152 ∷ 61440 ∷ 65280 ∷ 65535 ∷ []
unfolding falls total matrix settled transitions product
of_nothing = refl

-- fourteen pairs from the states 1 to 3
taught : List (ℕ × ℕ)
taught =
    (2, 1) ∷ (2, 2) ∷ (2, 1) ∷ (1, 0) ∷ (1, 1) ∷ (1, 1) ∷ (1, 1) ∷ (3, 0) ∷ (3, 3) ∷ (3, 3) ∷ (3, 2) ∷ (3, 3) ∷ (3, 3) ∷ (3, 3) ∷ []

-- one step of these, sixteen steps, and row 3 at column 0 after sixteen more
rows : List ℕ → List ℕ
rows one =
    let two = squared one in
    let four = squared two in
    let eight = squared four in
    let sixteen = squared eight in
    at one 1 0 ∷ at one 2 1 ∷ at one 2 2 ∷ at one 3 0 ∷ at one 3 2 ∷ at one 3 3
    ∷ at sixteen 1 0 ∷ at sixteen 2 0 ∷ at sixteen 2 1 ∷ at sixteen 3 0 ∷ at sixteen 3 1 ∷ at sixteen 3 2 ∷ at sixteen 3 3
    ∷ at (squared sixteen) 3 0 ∷ []

of_these : rows (transitions taught)
    ≡ 16384 ∷ 43690 ∷ 21846 ∷ 9362 ∷ 9362 ∷ 46812
    ∷ 64879 ∷ 64484 ∷ 1051 ∷ 63023 ∷ 2097 ∷ 112 ∷ 304
    ∷ 65501 ∷ []
unfolding rows taught total matrix settled transitions product
of_these = refl

fifth : List ℕ → ℕ
fifth (a ∷ b ∷ c ∷ d ∷ e ∷ rest) = e
fifth other = 0

sixteen_of_nothing : at (first []) 1 0 ≡ 65535
unfolding first falls fifth
sixteen_of_nothing = ap fifth of_nothing

-- what a fresh one answers
of_one : chance_of [] 1 1 ≡ 65535
unfolding power
of_one = sixteen_of_nothing

of_none_wanted : chance_of [] 0 9 ≡ 65536
of_none_wanted = refl

of_no_event : chance_of [] 1 0 ≡ 0
of_no_event = refl
