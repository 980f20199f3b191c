-- Numbers of events moved on by one amount.
use Rattle.std.specs.Prelude.{ℕ, ◌+◌, ◌<◌, ◌^◌, List, map}
use Rattle.std.specs.List.{All}

-- each number, so many further on
abbrev pub moved_by : ℕ → List ℕ → List ℕ
moved_by a numbers = map (λ n. n + a) numbers

-- each number of 32 bits is one so many further on too
abbrev pub MoveOn : ℕ → List ℕ → Type 0
MoveOn a numbers = All (λ n. n + a < 2 ^ 32) numbers
