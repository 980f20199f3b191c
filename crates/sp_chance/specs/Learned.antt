-- What a predictor has learned, and how likely it holds a completion to be.
use Rattle.std.specs.Prelude.{◌≡◌, ℕ, ◌+◌, ◌-◌, ◌/◌, ◌≤◌, Bool, List, [], ◌∷◌, ◌++◌, min, All, fold, length, nat_le, ◌==◌, ◌&&◌, if◌then◌else◌}
use Rattle.circular_buffer.specs.Buffer.{keep_last}
use Rattle.sp_base.specs.Limits.{renewal, whole_share}
use Rattle.sp_chance.specs.Matrices.{at, first, power}
use Rattle.sp_chance.specs.Counted.{IsMove, HasColumns}

-- the last pairs, how many were learned since matrices were built, and of which pairs these were built
pub record Learned : Type 0 where
  pub ring : List (ℕ × ℕ)
  pub since : ℕ
  pub built : List (ℕ × ℕ)

-- of nothing yet
abbrev pub fresh : Learned
fresh = record { ring = []; since = 0; built = [] }

-- a pair that counts: from 1 to 32 wanted events to as many or fewer
abbrev pub is_move : ℕ → ℕ → Bool
is_move from to = nat_le 1 from && nat_le from 32 && nat_le to from

-- the last 256 pairs, with one more
abbrev pub with_pair : List (ℕ × ℕ) → ℕ → ℕ → List (ℕ × ℕ)
with_pair ring from to = keep_last 256 (ring ++ (from, to) ∷ [])

-- with this ring after one pair more: each 1,024th builds the matrices anew
abbrev pub turned : Learned → List (ℕ × ℕ) → Learned
turned m ring =
    if m.since + 1 == renewal then record { ring = ring; since = 0; built = ring }
    else record { ring = ring; since = m.since + 1; built = m.built }

-- a pair more; one that doesn't count changes nothing
abbrev pub learned : Learned → ℕ → ℕ → Learned
learned m from to = if is_move from to then turned m (with_pair m.ring from to) else m

-- these pairs more, in their order
abbrev pub learned_all : Learned → List (ℕ × ℕ) → Learned
learned_all m pairs = fold (λ n p. learned n p.0 p.1) m pairs

-- how many times sixteen events begin, at most 16
abbrev pub sixteens : ℕ → ℕ
sixteens events = min ((events + 15) / 16) 16

-- how likely so many wanted events come while so many events pass, in 65,536ths
abbrev pub chance_of : List (ℕ × ℕ) → ℕ → ℕ → ℕ
chance_of pairs left events =
    if left == 0 then whole_share
    else if events == 0 then 0
    else at (power (first pairs) (sixteens events - 1)) (min left 32) 0

-- at most 256 pairs that count
pub record AreLast (pairs : List (ℕ × ℕ)) : Type 0 where
  pub few : length pairs ≤ 256
  pub moves : All IsMove pairs

-- the ring holds pairs that count, and the answers are of such pairs too
pub record IsSound (ring built : List (ℕ × ℕ)) : Type 0 where
  pub last : AreLast ring
  pub moves : All IsMove built
  pub few : length built ≤ 256

-- of which pairs numbers are at hand, and for how many states
pub record AtHand : Type 0 where
  pub pairs : List (ℕ × ℕ)
  pub rows : ℕ

-- the numbers at hand are those of the pairs beside them, and there is room to work others out
pub record AreAtHand (hand : AtHand) (columns one current next : List ℕ) : Type 0 where
  pub kept : HasColumns hand.rows (first hand.pairs) columns
  pub most : hand.rows ≤ 33
  pub size : length columns ≡ 528
  pub first_size : length one ≡ 1089
  pub current_size : length current ≡ 1089
  pub next_size : length next ≡ 1089
